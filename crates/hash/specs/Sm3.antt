-- Demand 2: "The digest is that of GB/T 32905-2016"; document 003, 5.1.
use Rattle.std.specs.Prelude.{ℕ, List}
use Rattle.standard.specs.Standard.{IV, folded, hash_value}
use Rattle.padding.specs.Padding.{padded}

-- pad the message, iterate the compression over its blocks from IV, and write the words out
unfoldable pub sm3 : List ℕ → List ℕ
sm3 message = hash_value (folded IV (padded message))
