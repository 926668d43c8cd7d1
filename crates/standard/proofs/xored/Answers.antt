use mathlib.Core.Path.{refl}
use Rattle.standard.specs.Standard.{xor_words}
use Rattle.standard.proofs.xored.Goals as goal

pub returns : goal.returns
unfolding xor_words
returns c = refl
