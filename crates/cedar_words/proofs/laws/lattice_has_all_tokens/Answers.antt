use Rattle.cedar_words.proofs.LatticeLemmas.{lattice_exact}
use Rattle.cedar_words.proofs.laws.lattice_has_all_tokens.Goals as goal

pub returns : goal.returns
returns c = λ tree key run text edge. lattice_exact tree key run text edge
