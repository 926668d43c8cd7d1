-- Every public struct holds its fields and nothing else: the promises speak of fields, and one more could carry anything. Assumes nothing.
use mathlib.Core.Path.{◌≡◌, refl}
use Rattle.refusal.specs.declared.Written.{Written}
use Rattle.decimal.specs.declared.Numeral.{Numeral}
use Rattle.decimal.specs.declared.Figures.{Figures}
use Rattle.texts.specs.declared.Text.{Text}
use Rattle.rules.specs.declared.Record.{Record}
use Rattle.lines.specs.declared.Fault.{Fault}
use Rattle.lines.specs.declared.Read.{Read}
use Rattle.lines.specs.declared.Stop.{Stop}
use Rattle.lines.specs.declared.Field.{Field}
use Rattle.lines.specs.declared.Entry.{Entry}
use Rattle.lines.specs.declared.NoteLine.{NoteLine}
use Rattle.standard.specs.declared.Words.{Words}
use Rattle.padded.specs.declared.Place.{Place}
use Rattle.hash.specs.declared.Hash.{Hash}
use Rattle.hash.specs.declared.Updated.{Updated}
use Rattle.hash.specs.declared.Digest.{Digest}
use Rattle.hash.specs.declared.Compared.{Compared}
use Rattle.mac.specs.declared.Code.{Code}
use Rattle.mac.specs.declared.CodeUpdated.{CodeUpdated}
use Rattle.slots.specs.declared.Slot.{Slot}
use Rattle.slots.specs.declared.Answer.{Answer}
use Rattle.slots.specs.declared.Step.{Step}
use Rattle.session.specs.declared.Session.{Session}
use Rattle.session.specs.declared.Delivered.{Delivered}
use Rattle.sheet.specs.declared.Bad.{Bad}
use Rattle.sheet.specs.declared.Verdict.{Verdict}
use Rattle.sheet.specs.declared.Sheet.{Sheet}
use Rattle.sheet.specs.declared.Start.{Start}
use Rattle.sheet.specs.declared.Listing.{Listing}
use Rattle.hash_in_place.specs.declared.Card.{Card}
use Rattle.reader.specs.declared.SheetReader.{SheetReader}

pub Written-holds : (x : Written) → x ≡ record { number = x.number; count = x.count }
Written-holds x = refl

pub Numeral-holds : (x : Numeral) → x ≡ record { value = x.value; next = x.next }
Numeral-holds x = refl

pub Figures-holds : (x : Figures) → x ≡ record { bytes = x.bytes; from = x.from }
Figures-holds x = refl

pub Text-holds : (x : Text) → x ≡ record { bytes = x.bytes; length = x.length }
Text-holds x = refl

pub Record-holds : (x : Record) → x ≡ record { length = x.length; loop_start = x.loop_start; loop_end = x.loop_end; digest = x.digest }
Record-holds x = refl

pub Fault-holds : (x : Fault) → x ≡ record { wanted = x.wanted; at = x.at }
Fault-holds x = refl

pub Read-holds : {T : Type 0} (x : Read T) → x ≡ record { value = x.value; next = x.next }
Read-holds x = refl

pub Stop-holds : (x : Stop) → x ≡ record { wanted = x.wanted; at = x.at }
Stop-holds x = refl

pub Field-holds : (x : Field) → x ≡ record { stop = x.stop; value = x.value }
Field-holds x = refl

pub Entry-holds : (x : Entry) → x ≡ record { note = x.note; sample = x.sample }
Entry-holds x = refl

pub NoteLine-holds : (x : NoteLine) → x ≡ record { stop = x.stop; entry = x.entry }
NoteLine-holds x = refl

pub Words-holds : (x : Words) → x ≡ record { a = x.a; b = x.b; c = x.c; d = x.d; e = x.e; f = x.f; g = x.g; h = x.h }
Words-holds x = refl

pub Place-holds : (x : Place) → x ≡ record { which = x.which; offset = x.offset; length = x.length }
Place-holds x = refl

pub Hash-holds : (x : Hash) → x ≡ record { words = x.words; total = x.total; tail = x.tail }
Hash-holds x = refl

pub Updated-holds : (x : Updated) → x ≡ record { number = x.number; state = x.state }
Updated-holds x = refl

pub Digest-holds : (x : Digest) → x ≡ record { number = x.number; bytes = x.bytes }
Digest-holds x = refl

pub Compared-holds : (x : Compared) → x ≡ record { number = x.number; same = x.same }
Compared-holds x = refl

pub Code-holds : (x : Code) → x ≡ record { inner = x.inner; outer = x.outer }
Code-holds x = refl

pub CodeUpdated-holds : (x : CodeUpdated) → x ≡ record { number = x.number; state = x.state }
CodeUpdated-holds x = refl

pub Slot-holds : (x : Slot) → x ≡ record { sample = x.sample; state = x.state; status = x.status }
Slot-holds x = refl

pub Answer-holds : (x : Answer) → x ≡ record { number = x.number; status = x.status; taken = x.taken }
Answer-holds x = refl

pub Step-holds : (x : Step) → x ≡ record { answer = x.answer; slot = x.slot }
Step-holds x = refl

pub Session-holds : (x : Session) → x ≡ record { slots = x.slots; listed = x.listed; opened = x.opened }
Session-holds x = refl

pub Delivered-holds : (x : Delivered) → x ≡ record { answer = x.answer; session = x.session }
Delivered-holds x = refl

pub Bad-holds : (x : Bad) → x ≡ record { refusal = x.refusal; line = x.line }
Bad-holds x = refl

pub Verdict-holds : (x : Verdict) → x ≡ record { number = x.number; line = x.line }
Verdict-holds x = refl

pub Sheet-holds : (x : Sheet) → x ≡ record { verdict = x.verdict; session = x.session }
Sheet-holds x = refl

pub Start-holds : (x : Start) → x ≡ record { at = x.at; notes = x.notes; listed = x.listed }
Start-holds x = refl

pub Listing-holds : (x : Listing) → x ≡ record { index = x.index; slot = x.slot; next = x.next }
Listing-holds x = refl

pub Card-holds : (x : Card) → x ≡ record { state = x.state }
Card-holds x = refl

pub SheetReader-holds : (x : SheetReader) → x ≡ record { text = x.text; at = x.at }
SheetReader-holds x = refl
