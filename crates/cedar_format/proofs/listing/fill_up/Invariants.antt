use Rattle.std.proofs.Common.{◌≡◌, ◌≤◌, ◌-◌, ◌++◌, replicate, vec_len, vec_capacity}
use Rattle.cedar_format.proofs.listing.fill_up.Given as goal

abbrev pub invariant-loop-blank : goal.invariant-loop-blank
invariant-loop-blank g l = record {
  items : l.records.items ≡ l.initial.records.items ++ replicate (vec_len l.records - vec_len l.initial.records) l.blank;
  more : vec_len l.initial.records ≤ vec_len l.records;
  most : vec_len l.records - vec_len l.initial.records ≤ l.len - vec_len l.initial.records;
  room : l.len ≤ vec_capacity l.records;
}

abbrev pub decreases-loop-blank : goal.decreases-loop-blank
decreases-loop-blank g l = l.len - vec_len l.records
