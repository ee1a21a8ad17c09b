use Rattle.cedarwood.proofs.trie.Trie.exact_match_search_bytes.Given as goal

abbrev pub ghosts-search_uncounted : goal.ghosts-search_uncounted
ghosts-search_uncounted g a = record { name = a.blank.name; parts = a.blank.parts }
