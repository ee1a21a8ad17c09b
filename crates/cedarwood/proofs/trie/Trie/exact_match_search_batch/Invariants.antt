use Rattle.cedarwood.proofs.trie.Trie.exact_match_search_batch.Given as goal

abbrev pub ghosts-search_batch_uncounted : goal.ghosts-search_batch_uncounted
ghosts-search_batch_uncounted g a = record { name = a.blank.name; parts = a.blank.parts }
