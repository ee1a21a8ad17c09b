use Rattle.std.proofs.Common.{sym}
use Rattle.cedar_scan.proofs.StreamLemmas.{held_last, held_longest}
use Rattle.cedar_scan.proofs.SuffixLemmas.{held_is_node}
use Rattle.cedar_scan.proofs.laws.held_suffixes_are_longest.Goals as goal

pub returns : goal.returns
returns c = λ tree text. record {
  is_suffix = sym (held_last tree text);
  held = held_is_node tree text;
  longest = λ n low node. held_longest tree text n low node;
}
