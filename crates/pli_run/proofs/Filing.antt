-- Each image that a machine can load has a picture in instructions, and its table lists signatures.
use Rattle.std.proofs.Common.{◌≡◌, ℕ, zero, suc, ◌<◌, List, [], ◌∷◌, length, map, refl, ap, subst, ◌∙◌, arith}
use Rattle.std.specs.Prelude.{slice_index}
use Rattle.rv_meaning.specs.declared.instr.Instr.{Instr}
use Rattle.rv_meaning.specs.Encoding.{word_of, Fits}
use Rattle.rv_meaning.specs.Images.{Image, IsInstruction, IsLoadable}
use Rattle.pli_meaning.specs.Pictures.{Picture}
use Rattle.rv_machine.specs.Fitting.{AllFit}
use Rattle.rv_meaning.specs.Tables.{TableSignature}
use Rattle.pli_run.specs.Running.{IsPicture, IsTabled}

record AreWords (words : List ℕ) : Type 0 where
  code : List Instr
  words_are : map word_of code ≡ words
  fit : AllFit code

none_fit : AllFit []
none_fit zero i e = absurd cc
none_fit (suc k) i e = absurd cc

one_more : (c : Instr) (cs : List Instr) → Fits c → AllFit cs → AllFit (c ∷ cs)
one_more c cs fits all zero i e = let same : c ≡ i = cc in subst Fits same fits
one_more c cs fits all (suc k) i e = all k i e

instructions : (words : List ℕ) → ((k : ℕ) → k < length words → IsInstruction (slice_index words k)) → AreWords words
instructions [] each = record { code = []; words_are = refl; fit = none_fit }
instructions (w ∷ ws) each =
    let first : IsInstruction w = each 0 (omega arith) in
    let others = instructions ws (λ k h. each (suc k) (omega arith)) in
    record {
      code = first.0 ∷ others.code;
      words_are = ap (λ (n : ℕ). n ∷ map word_of others.code) first.2 ∙ ap (λ (l : List ℕ). w ∷ l) others.words_are;
      fit = one_more first.0 others.code first.1 others.fit;
    }

pub pictured : (i : Image) → IsLoadable i → (p : Picture) × IsPicture p i
pictured i h =
    let c = instructions i.code h.decodable in (
      record { code = c.code; statics = i.statics; entry = i.entry },
      record { words_are = c.words_are; fit = c.fit; statics_are = refl; entry_is = refl },
    )

pub tabled : (i : Image) → IsLoadable i → (gs : List TableSignature) × IsTabled gs i
tabled i h =
    let table = h.table_lists in (table.signatures, record { fit = table.fit; spelled = table.spelled })
