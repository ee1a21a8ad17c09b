use Rattle.cedar_c.proofs.below.tell_below.Goals as goal

pub next_length-requires-clause-place : goal.next_length-requires-clause-place
next_length-requires-clause-place g c = c.write_page-page.ensures.place
