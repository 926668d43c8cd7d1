-- "Refusal numbers": the rows of the table, by name. The code's enum `Refusal` stands in src/lib.rt in the same order.
use Rattle.std.specs.Prelude.{ℕ, Result, Ok, Err}
use Rattle.refusal.specs.declared.Written.{Written}
use Rattle.refusal.specs.declared.Refusal.{Refusal}
use Rattle.refusal.specs.declared.Refusal.TheVariants

-- "Number 0 is an accepted call"
abbrev pub accepted : ℕ
accepted = 0

-- "sheet form, count or note, length, loop"
abbrev pub form : ℕ
form = 1

abbrev pub count_or_note : ℕ
count_or_note = 2

abbrev pub bad_length : ℕ
bad_length = 3

abbrev pub bad_loop : ℕ
bad_loop = 4

-- "note 0, above 32, or unlisted"
abbrev pub unlisted : ℕ
unlisted = 5

-- "slot not in order"
abbrev pub slot_not_in_order : ℕ
slot_not_in_order = 6

-- "delivery to a decided note, empty piece too"
abbrev pub decided : ℕ
decided = 7

-- "taken + piece exceeds length"
abbrev pub past_length : ℕ
past_length = 8

-- "hash state not in order (update, final)"
abbrev pub state_not_in_order : ℕ
state_not_in_order = 9

-- "message total would pass 2^61 - 1"
abbrev pub too_long : ℕ
too_long = 10

-- "tail buffer shorter than needed, or expected digest not 32 bytes"
abbrev pub wrong_size : ℕ
wrong_size = 11

-- "block number not below the block count"
abbrev pub no_such_block : ℕ
no_such_block = 12

-- "tail buffer's first 64 or 128 bytes aren't what the padding writer puts there for this message"
abbrev pub other_tail : ℕ
other_tail = 13

-- "not a padded message"
abbrev pub not_padded : ℕ
not_padded = 14

-- The numbers of document 02. 15 to 18 are given; each of the others is once its request has landed.
-- 1/13: "no note listed"
abbrev pub none_listed : ℕ
none_listed = 15

-- "buffer shorter than the sheet"
abbrev pub short_buffer : ℕ
short_buffer = 16

-- 4/13: "MAC line missing or ill formed"
abbrev pub no_mac_line : ℕ
no_mac_line = 17

-- "code doesn't fit"
abbrev pub other_code : ℕ
other_code = 18

-- 7/13: "1 becomes 19 the word RANK or the edition,"
abbrev pub no_word : ℕ
no_word = 19

-- "20 number,"
abbrev pub no_number : ℕ
no_number = 20

-- "21 tab or line end,"
abbrev pub no_separator : ℕ
no_separator = 21

-- "22 digest digit,"
abbrev pub no_digit : ℕ
no_digit = 22

-- "23 text after the sheet"
abbrev pub text_after : ℕ
text_after = 23

-- 8/13: "page number not below the count"
abbrev pub no_such_page : ℕ
no_such_page = 24

-- "path length not the one that number and count require"
abbrev pub other_path_length : ℕ
other_path_length = 25

-- "path buffer shorter than needed"
abbrev pub short_path_buffer : ℕ
short_path_buffer = 26

-- 10/13: "a ninth level, judged at its GROUP line after form"
abbrev pub too_deep : ℕ
too_deep = 27

-- 8/13: "page not 4,096 bytes, or the last not 1 to 4,096"
abbrev pub other_page_size : ℕ
other_page_size = 28

-- 10/13: "the writer's list is not that of any accepted sheet of these notes"
abbrev pub other_groups : ℕ
other_groups = 29

-- What a call that writes answers: refused, "count 0"; and one that wrote so many bytes
abbrev pub refused_by : ℕ → Written
refused_by number = record { number = number; count = 0 }

abbrev pub wrote : ℕ → Written
wrote size = record { number = accepted; count = size }

-- the number of a refusal of the code
abbrev pub number_by : Refusal → ℕ
number_by TheVariants.Form = form
number_by TheVariants.CountOrNote = count_or_note
number_by TheVariants.BadLength = bad_length
number_by TheVariants.BadLoop = bad_loop
number_by TheVariants.Unlisted = unlisted
number_by TheVariants.SlotNotInOrder = slot_not_in_order
number_by TheVariants.Decided = decided
number_by TheVariants.PastLength = past_length
number_by TheVariants.StateNotInOrder = state_not_in_order
number_by TheVariants.TooLong = too_long
number_by TheVariants.WrongSize = wrong_size
number_by TheVariants.NoSuchBlock = no_such_block
number_by TheVariants.OtherTail = other_tail
number_by TheVariants.NotPadded = not_padded
number_by TheVariants.NoneListed = none_listed
number_by TheVariants.ShortBuffer = short_buffer
number_by TheVariants.NoMacLine = no_mac_line
number_by TheVariants.OtherCode = other_code
number_by TheVariants.NoWord = no_word
number_by TheVariants.NoNumber = no_number
number_by TheVariants.NoSeparator = no_separator
number_by TheVariants.NoDigit = no_digit
number_by TheVariants.TextAfter = text_after
number_by TheVariants.NoSuchPage = no_such_page
number_by TheVariants.OtherPathLength = other_path_length
number_by TheVariants.ShortPathBuffer = short_path_buffer
number_by TheVariants.TooDeep = too_deep
number_by TheVariants.OtherPageSize = other_page_size
number_by TheVariants.OtherGroups = other_groups

-- the number of what a call answers, whatever it gives where it is accepted
abbrev pub number_of : {T : Type 0} → Result T Refusal → ℕ
number_of (Ok _) = accepted
number_of (Err refusal) = number_by refusal

-- what a C host is told of a call that writes
abbrev pub written_of : Result ℕ Refusal → Written
written_of (Ok size) = wrote size
written_of (Err refusal) = refused_by (number_by refusal)
