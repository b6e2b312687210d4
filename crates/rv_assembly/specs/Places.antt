-- Items whose numbers aren't known before the code behind them is: they are written first, and put in their place afterwards.
use Rattle.std.specs.Prelude.{◌≡◌, ℕ, ◌+◌, ◌-◌, ◌*◌, ◌<◌, pos, [], ◌∷◌, ◌++◌, length, slice_set, slice_index_or}
use Rattle.rv_meaning.specs.declared.instr.Instr.TheVariants as I
use Rattle.rv_meaning.specs.declared.instr.Register.{Register}
use Rattle.rv_meaning.specs.declared.instr.BranchTest.{BranchTest}
use Rattle.rv_meaning.specs.declared.instr.BranchTest.TheVariants as Test
use Rattle.pli_coding.specs.Registers.{zero_register, a0}
use Rattle.pli_coding.specs.Assembly.{Item, Plain, JumpAhead, JumpBack, Code, item_size, size_of}
use Rattle.pli_coding.specs.Instructions.{skip_where}
use Rattle.rv_assembly.specs.declared.place.Place.{Place}

-- what stands there until then
abbrev pub branch_kept : Item
branch_kept = Plain I.Ebreak

abbrev pub jump_kept : Item
jump_kept = JumpAhead 0

-- the places of such an item behind this code
unfoldable pub branch_place : Code → Place
branch_place before = record { index = length before; words = size_of before + 1 }

unfoldable pub jump_place : Code → Place
jump_place before = record { index = length before; words = size_of before + 2 }

-- there is an item of so many words at the place
unfoldable pub IsPlace : ℕ → Code → Place → Type 0
IsPlace words code p = (p.index < length code) × (item_size (slice_index_or code p.index branch_kept) ≡ words)

-- the words behind it
unfoldable pub words_behind : Code → Place → ℕ
words_behind code p = size_of code - p.words

unfoldable pub patched : Code → Place → Item → Code
patched code p i = slice_set code p.index i

abbrev pub branch : BranchTest → Register → Register → ℕ → Item
branch test r s words = Plain (I.Branch test r s (pos (4 * (1 + words))))

-- past all that stands behind the place
abbrev pub skipped : Code → Place → BranchTest → Register → Register → Code
skipped code p test r s = patched code p (branch test r s (words_behind code p))

abbrev pub jumped_over : Code → Place → Code
jumped_over code p = patched code p (JumpAhead (words_behind code p))

-- and from the first place past the second
unfoldable pub words_between : Place → Place → ℕ
words_between p q = q.words - p.words

unfoldable pub chosen : Code → (branch jump : Place) → BranchTest → Register → Register → Code
chosen code b j test r s =
    patched (patched code b (branch test r s (words_between b j))) j (JumpAhead (words_behind code j))

-- back to where so many words stood, as long as a0 is 0
unfoldable pub repeated_from : ℕ → Code → Code
repeated_from words code =
    code ++ skip_where Test.NotEqual a0 zero_register (JumpBack (size_of code - words + 1) ∷ [])
