use Rattle.cedar_words.proofs.TokenLemmas.{segments_bytes, segments_cover}
use Rattle.cedar_words.proofs.laws.tokens_cover.Goals as goal

pub returns-clause-covers : goal.returns-clause-covers
returns-clause-covers c = λ tree text. segments_cover tree text

pub returns-clause-bytes : goal.returns-clause-bytes
returns-clause-bytes c = λ tree text. segments_bytes tree 0 text
