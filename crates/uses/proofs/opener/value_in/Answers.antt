use Rattle.uses.proofs.opener.value_in.Goals as goal

pub returns : goal.returns
returns c =
    let loads = c.in_ok-words.ensures.loads in
    (c.in_ok-words.words, loads.0, loads.1, c.get_bytes.ensures)
