-- The numbers of the refusals: 01, "Replies", and 02 for those from 12 on. 0, "done", is none of them.
use Rattle.std.specs.Prelude.{ℕ, Result, Ok, Err}
use Rattle.refusals.specs.declared.Refusal.{Refusal}
use Rattle.refusals.specs.declared.Refusal.TheVariants.{WrongLength, RegisterTooWide, NoSuchEvent, WordTooWide, NoSuchJump, NoSource, CellTooWide, StackEmpty, StackFull, NothingToSend, FieldTooWide, BadRecord, BadCheckByte, NoSuchRecordType, AddressNotOnce, NoEndRecord, UnusedBits}

abbrev pub number_of : Refusal → ℕ
number_of = elim [ WrongLength ↦ 1 | RegisterTooWide ↦ 2 | NoSuchEvent ↦ 3 | WordTooWide ↦ 4 | NoSuchJump ↦ 5 | NoSource ↦ 6 | CellTooWide ↦ 7 | StackEmpty ↦ 8 | StackFull ↦ 9 | NothingToSend ↦ 10 | FieldTooWide ↦ 11 | BadRecord ↦ 12 | BadCheckByte ↦ 13 | NoSuchRecordType ↦ 14 | AddressNotOnce ↦ 15 | NoEndRecord ↦ 16 | UnusedBits ↦ 18 ]

-- "done" is 0
abbrev pub number_unless_ok : {T : Type 0} → Result T Refusal → ℕ
number_unless_ok (Ok done) = 0
number_unless_ok (Err refusal) = number_of refusal
