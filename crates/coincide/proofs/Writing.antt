-- `writing`: any two results that meet a contract coincide; and a contract is what is promised, of its own arguments. Assumes nothing.
use mathlib.Core.Path.{sym, ◌∙◌, ◌≡◌}
use mathlib.Core.Logic.Iff
use Prim.Native.Nat.{ℕ}
use mathlib.Core.List.{List}
use lib.ListN.{length}
use Rattle.buffers.specs.Copy.{copied}
use Rattle.writing.specs.Texts.{header_text, line_text}
use Rattle.coincide.specs.Coincide.{CoincideAt, Means, Answers}
use Rattle.writing.specs.contracts
use Rattle.writing.proofs

pub put_header : CoincideAt contracts.put_header.ended (List ℕ) (λ κs e. e.0.now) proofs.put_header.Reads.Post
put_header κs a x y e f p q = (p.0 ∙ sym q.0, p.1 ∙ sym q.1)

pub put_line : CoincideAt contracts.put_line.ended (List ℕ) (λ κs e. e.0.now) proofs.put_line.Reads.Post
put_line κs a x y e f p q = (p.0 ∙ sym q.0, p.1 ∙ sym q.1)

pub header_size_means : Answers contracts.header_size.ended proofs.header_size.Reads.Post (λ κs a. length (header_text a.0))
header_size_means κs a r e = Iff.rfl

pub line_size_means : Answers contracts.line_size.ended proofs.line_size.Reads.Post (λ κs a. length (line_text a.0))
line_size_means κs a r e = Iff.rfl

pub put_header_means : Means contracts.put_header.ended proofs.put_header.Reads.Post
    (λ κs a r e. (r ≡ length (header_text a.1.1.0)) × (e.0.now ≡ copied a.0.now a.1.0 (header_text a.1.1.0)))
put_header_means κs a r e = Iff.rfl

pub put_line_means : Means contracts.put_line.ended proofs.put_line.Reads.Post
    (λ κs a r e. (r ≡ length (line_text a.1.1.0)) × (e.0.now ≡ copied a.0.now a.1.0 (line_text a.1.1.0)))
put_line_means κs a r e = Iff.rfl
