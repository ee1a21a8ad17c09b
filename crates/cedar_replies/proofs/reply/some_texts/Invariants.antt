use Rattle.std.proofs.Common.{◌+◌, ◌≤◌, ◌++◌, List, Option, ℕ, ℤ, length, map, option_map, vec_len, string_bytes}
use Rattle.std.specs.Vec.{vec_capacity}
use Rattle.cedarwood.specs.Queries.{walk}
use Rattle.cedar_replies.specs.Replies.{AreTexts}
use Rattle.cedar_replies.proofs.reply.some_texts.Given as goal

-- whatever texts represent the entries that are left, those that were collected and these represent all entries; and there is room
abbrev pub invariant-loop-entry : goal.invariant-loop-entry
invariant-loop-entry g l =
    ((later : List (Option (List ℕ × ℤ))) → AreTexts later l.entry-iterator
    → AreTexts (map (option_map (λ e. (string_bytes e.0, e.1))) l.found.items ++ later) (walk l.trie.state.tree))
    × (vec_len l.found + length l.entry-iterator ≤ vec_capacity l.found)
