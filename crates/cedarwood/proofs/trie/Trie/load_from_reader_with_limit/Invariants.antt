use Rattle.cedarwood.proofs.trie.Trie.load_from_reader_with_limit.Given as goal

abbrev pub ghosts-load_uncounted-C-Ledger : goal.ghosts-load_uncounted-C-Ledger
ghosts-load_uncounted-C-Ledger g a = record { name = a.asked_blank.name; parts = a.asked_blank.parts }

abbrev pub ghosts-load_uncounted-D-Ledger : goal.ghosts-load_uncounted-D-Ledger
ghosts-load_uncounted-D-Ledger g a = record { name = a.reads_blank.name; parts = a.reads_blank.parts }
