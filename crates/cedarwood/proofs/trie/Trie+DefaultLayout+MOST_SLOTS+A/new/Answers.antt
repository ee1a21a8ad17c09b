use Rattle.cedarwood.specs.Making.{default_settings}
use Rattle.cedarwood.proofs.MakingLemmas.{new_alike}
use Rattle.cedarwood.proofs.trie.Trie+DefaultLayout+MOST_SLOTS+A.new.Goals as goal

pub returns-clause-made : goal.returns-clause-made
returns-clause-made g c = new_alike c.builder.result default_settings c.builder.ensures.ordered c.builder.ensures.max_trial c.builder.ensures.search_limit c.build.result c.build.ensures.made
