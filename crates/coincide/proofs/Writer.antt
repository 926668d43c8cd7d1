-- `writer`: any two results that meet a contract coincide. Assumes nothing.
use mathlib.Core.Path.{refl, sym, ◌∙◌}
use Prim.Native.Nat.{ℕ}
use mathlib.Core.List.{List}
use Rattle.refusal.specs.Table.{written_of}
use Rattle.refusal.proofs.Proved.{proved as refusal}
use Rattle.writing.specs.Promises.{Row}
use Rattle.writing.proofs.Proved.{proved as writing}
use Rattle.coincide.specs.Coincide.{CoincideAt, Means, Says}
use Rattle.writer.specs.contracts
use Rattle.writer.proofs

abbrev pub write_says : Says contracts.write.ended (λ M 𝓤. contracts.write.clauses {M = M} {𝓤 = 𝓤})
write_says = record { claim = proofs.write.Reads.Post; stated = λ M 𝓤 𝓛 mem run κs a g r e. refl }

pub write : CoincideAt contracts.write.ended (List ℕ) (λ κs e. e.1.0.now) write_says.claim
write κs a x y e f p q = (refusal.told x y (p.0 ∙ sym q.0), p.1 ∙ sym q.1)

-- what meets the contract, told to a C host, is the row of the table for writing that holds of this session and this buffer
pub write_rows : Means contracts.write.ended write_says.claim (λ κs a r e. Row a.0.now a.1.0.now (written_of r) e.1.0.now)
write_rows κs a r e = writing.table a.0.now a.1.0.now (written_of r) e.1.0.now
