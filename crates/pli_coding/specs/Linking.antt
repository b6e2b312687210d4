-- Code at its places: items become instructions once the place of each symbol is known. Places are counted from the
-- base, in bytes; the code stands at the base, and its data from the next multiple of 16 on.
use Rattle.std.specs.Prelude.{ℕ, ◌+◌, ◌*◌, ◌/◌, ◌%◌, ◌^◌, ℤ, pos, ◌-ℤ◌, List, [], ◌∷◌, ◌++◌, if◌then◌else◌}
use Rattle.rv_meaning.specs.declared.instr.Instr.{Instr}
use Rattle.rv_meaning.specs.declared.instr.Instr.TheVariants as I
use Rattle.rv_meaning.specs.declared.instr.ImmediateOp.TheVariants as Imm
use Rattle.rv_meaning.specs.declared.instr.Register.{Register}
use Rattle.rv_meaning.specs.Words.{word}
use Rattle.pli_typing.specs.Signatures.{rounded_up}
use Rattle.pli_coding.specs.Registers.{zero_register, return_register, far_register}
use Rattle.pli_coding.specs.Assembly.{Symbol, DataPlace, same_symbol, Item, Plain, BaseIn, OffsetOf, OffsetAhead}
use Rattle.pli_coding.specs.Assembly.{JumpTo, CallTo, JumpAhead, JumpBack, Mark, Code, item_size, size_of}
use Rattle.pli_coding.specs.StaticData.{PlacedDatum, datum_place, placed_from, static_data, bytes_from}

-- ---- numbers of 32 bits in two instructions

-- the upper 20 bits that a word takes, and what is then to be added, from -2,048 to 2,047
abbrev pub upper_part : ℕ → ℕ
upper_part w = (w + 2048) / 4096 % 2 ^ 20

abbrev pub lower_part : ℕ → ℤ
lower_part w = pos ((w + 2048) % 4096) -ℤ pos 2048

-- ---- places

pub record MarkedPlace : Type 0 where
  pub symbol : Symbol
  pub place : ℕ

abbrev pub marks_from : ℕ → Code → List MarkedPlace
marks_from at [] = []
marks_from at (Mark s ∷ is) = record { symbol = s; place = at } ∷ marks_from at is
marks_from at (i ∷ is) = marks_from (at + 4 * item_size i) is

abbrev pub marked_place : Symbol → List MarkedPlace → ℕ
marked_place s [] = 0
marked_place s (m ∷ ms) = if same_symbol s m.symbol then m.place else marked_place s ms

-- where symbols stand in the code, and data behind it
pub record Links : Type 0 where
  pub marks : List MarkedPlace
  pub data' : List PlacedDatum

abbrev pub place_of : Links → Symbol → ℕ
place_of links (DataPlace d) = datum_place d links.data'
place_of links s = marked_place s links.marks

-- ---- instructions

abbrev pub added : Register → ℕ → Instr
added r w = I.Immediate Imm.Add r r (lower_part w)

abbrev pub offset_code : Register → (offset : ℕ) → List Instr
offset_code r offset = I.LoadUpper r (upper_part offset) ∷ added r offset ∷ []

-- the address at a distance from this place, given as a word
abbrev pub address_code : Register → (distance : ℕ) → List Instr
address_code r distance = I.AddUpperToPc r (upper_part distance) ∷ added r distance ∷ []

abbrev pub jump_code : (link through : Register) → (distance : ℕ) → List Instr
jump_code link through distance =
    I.AddUpperToPc through (upper_part distance) ∷ I.JumpRegister link through (lower_part distance) ∷ []

-- from one place to another, as a word
abbrev pub distance : (from to : ℕ) → ℕ
distance from to = word (pos to -ℤ pos from)

abbrev pub item_code : Links → (at : ℕ) → Item → List Instr
item_code links at (Plain i) = i ∷ []
item_code links at (BaseIn r) = address_code r (distance at 0)
item_code links at (OffsetOf r s) = offset_code r (place_of links s)
item_code links at (OffsetAhead r words) = offset_code r (at + 4 * (2 + words))
item_code links at (JumpTo s) = jump_code zero_register far_register (distance at (place_of links s))
item_code links at (CallTo s) = jump_code return_register return_register (distance at (place_of links s))
item_code links at (JumpAhead words) = jump_code zero_register far_register (distance at (at + 4 * (2 + words)))
item_code links at (JumpBack words) = jump_code zero_register far_register (distance (4 * words) 0)
item_code links at (Mark s) = []

-- code that begins at a place
abbrev pub linked : Links → (at : ℕ) → Code → List Instr
linked links at [] = []
linked links at (i ∷ is) = item_code links at i ++ linked links (at + 4 * item_size i) is

-- ---- the whole

abbrev pub data_start : Code → ℕ
data_start code = rounded_up 16 (4 * size_of code)

abbrev pub links_of : Code → Links
links_of code = record { marks = marks_from 0 code; data' = placed_from (data_start code) (static_data code) }

abbrev pub data_bytes : Code → List ℕ
data_bytes code =
    bytes_from (placed_from (data_start code) (static_data code)) (data_start code)
    (placed_from (data_start code) (static_data code))
