use Rattle.std.proofs.Common.{sym, true≢false}
use Rattle.cedarwood.proofs.trie.Trie.entries_str.Goals as goal

-- the call that it makes isn't refused
pub returns-in_err-entries-clause-made : goal.returns-in_err-entries-clause-made
returns-in_err-entries-clause-made g c = absurd (true≢false (sym c.in_err-entries.ensures.made))
