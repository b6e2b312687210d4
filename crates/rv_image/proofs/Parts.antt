-- The parts of an image among its bytes, by its header.
use Rattle.std.proofs.Common.{◌≡◌, ℕ, ◌+◌, ◌-◌, ◌*◌, ◌%◌, ◌<◌, ◌≤◌, ◌↔◌, List, [], ◌++◌, append_assoc, length, take, drop, refl, ap, sym, subst, ◌∙◌, arith}
use Rattle.rv_meaning.specs.declared.image.ImageFault.{ImageFault}
use Rattle.rv_meaning.specs.declared.image.ImageFault.TheVariants as F
use Rattle.rv_meaning.specs.Memory.{load, bytes_of_words}
use Rattle.rv_meaning.specs.Images.{Image, image, IsInstruction, AllInstructions, AreBelow, HasBytes, words_at, statics_length, table_length, statics_start, table_start, image_in, Keeps}
use Rattle.rv_meaning.proofs.ImageBytes.{length-words_at, same_image, image_forth}
use Rattle.rv_image.specs.declared.header.Header.{Header}
use Rattle.rv_image.specs.Headers.{header_statics, header_table, header_end, IsHeaderOf, IsChecked, IsRefusal, IsFaultOf, out_of_memory}
use Rattle.rv_image.specs.Reading.{words_of}
use Rattle.rv_image.proofs.Words.{words_of-part, words_at-index}
use Rattle.rv_image.proofs.Refusing.{KeptBelow, kept_first, kept_more}

pub table_part : (b : List ℕ) (h : Header) (from to : ℕ) → IsHeaderOf h b → from ≡ header_table h → to ≡ header_end h → header_end h ≤ length b → words_of (take (to - from) (drop from b)) ≡ words_at (table_length b) b (table_start b)
table_part b h from to is e f inside =
    let n = is.table_is in
    let m = is.code_is in
    let k = is.statics_is in
    let count : to - from ≡ 4 * table_length b = omega (arith, n) in
    let place : from ≡ table_start b = omega (arith, m, k) in
    ap (λ (c : ℕ). words_of (take c (drop from b))) count
    ∙ ap (λ (a : ℕ). words_of (take (4 * table_length b) (drop a b))) place
    ∙ words_of-part b (table_length b) (table_start b) (omega (arith, n, place))

pub all_words : (n : ℕ) (b : List ℕ) → ((j : ℕ) → j < n → IsInstruction (load 4 b (24 + 4 * j))) → AllInstructions (words_at n b 24)
all_words n b each k h =
    let l = length-words_at n b 24 in
    let lt : k < n = omega (arith, l) in
    subst IsInstruction (sym (words_at-index n b 24 k lt)) (each k lt)

pub one_word : (n : ℕ) (b : List ℕ) (j : ℕ) → AllInstructions (words_at n b 24) → j < n → IsInstruction (load 4 b (24 + 4 * j))
one_word n b j all h =
    let l = length-words_at n b 24 in
    subst IsInstruction (words_at-index n b 24 j h) (all j (omega (arith, l)))

-- ---- what is found of the bytes

-- the first three rules are kept
pub record Begun (b : List ℕ) : Type 0 where
  pub magic : Keeps F.Magic b
  pub version : Keeps F.Version b
  pub lengths : Keeps F.Length b

kept_3 : (b : List ℕ) → Begun b → KeptBelow 4 b
kept_3 b s = kept_more b F.Length (kept_more b F.Version (kept_more b F.Magic (kept_first b) s.magic) s.version) s.lengths

pub word_refused : (b : List ℕ) → Begun b → ¬ Keeps F.Word b → IsRefusal b F.Word
word_refused b s broken = record { no_want = λ e. absurd cc; refused = record { broken = broken; least = kept_3 b s } }

pub table_refused : (b : List ℕ) → Begun b → Keeps F.Word b → ¬ Keeps F.Table b → IsRefusal b F.Table
table_refused b s w broken = record { no_want = λ e. absurd cc; refused = record { broken = broken; least = kept_more b F.Word (kept_3 b s) w } }

pub entry_refused : (b : List ℕ) → Begun b → Keeps F.Word b → Keeps F.Table b → ¬ Keeps F.Entry b → IsRefusal b F.Entry
entry_refused b s w t broken = record { no_want = λ e. absurd cc; refused = record { broken = broken; least = kept_more b F.Table (kept_more b F.Word (kept_3 b s) w) t } }

pub trailing_refused : (b : List ℕ) → Begun b → Keeps F.Word b → Keeps F.Table b → Keeps F.Entry b → ¬ Keeps F.Trailing b → IsRefusal b F.Trailing
trailing_refused b s w t e broken =
    record { no_want = λ e. absurd cc; refused = record { broken = broken; least = kept_more b F.Entry (kept_more b F.Table (kept_more b F.Word (kept_3 b s) w) t) e } }

pub all_kept : (b : List ℕ) → Begun b → Keeps F.Word b → Keeps F.Table b → Keeps F.Entry b → Keeps F.Trailing b → (fault : ImageFault) → Keeps fault b
all_kept b s w t e r F.Magic = s.magic
all_kept b s w t e r F.Version = s.version
all_kept b s w t e r F.Length = s.lengths
all_kept b s w t e r F.Word = w
all_kept b s w t e r F.Table = t
all_kept b s w t e r F.Entry = e
all_kept b s w t e r F.Trailing = r
all_kept b s w t e r F.Memory = tt

pub words_kept : (b : List ℕ) (h : Header) → IsHeaderOf h b → AllInstructions (words_at h.code b 24) ↔ Keeps F.Word b
words_kept b h is = (
  λ a. subst (λ (n : ℕ). AllInstructions (words_at n b 24)) is.code_is a,
  λ a. subst (λ (n : ℕ). AllInstructions (words_at n b 24)) (sym is.code_is) a,
)

pub entry_kept : (b : List ℕ) (h : Header) → IsHeaderOf h b → ((h.entry % 4 ≡ 0) × (h.entry < 4 * h.code)) ↔ Keeps F.Entry b
entry_kept b h is =
    let e = is.entry_is in
    let n = is.code_is in (
      λ a. (omega (arith, e, a.0), omega (arith, e, n, a.1)),
      λ a. (omega (arith, e, a.0), omega (arith, e, n, a.1)),
    )

-- the parts that are read are those of the image
pub parts_read : (b : List ℕ) (h : Header) (code statics table : List ℕ) (from to at : ℕ) → AreBelow 256 b → IsChecked h b
    → code ≡ words_at h.code b 24 → from ≡ header_statics h → to ≡ header_table h → statics ≡ take (to - from) (drop from b) → at ≡ header_table h → table ≡ words_at h.table b at → HasBytes (image code statics h.entry table) b
parts_read b h code statics table from to at below c code_is from_is to_is statics_are at_is table_is =
    let is = c.header in
    let n = is.code_is in
    let k = is.statics_is in
    let e1 : code ≡ (image_in b).code = code_is ∙ ap (λ (m : ℕ). words_at m b 24) n in
    let count : to - from ≡ statics_length b = omega (arith, k) in
    let place : from ≡ statics_start b = omega (arith, n) in
    let e2 : statics ≡ (image_in b).statics = statics_are ∙ ap (λ (m : ℕ). take m (drop from b)) count ∙ ap (λ (m : ℕ). take (statics_length b) (drop m b)) place in
    let table_place : at ≡ table_start b = omega (arith, n, k) in
    let e3 : table ≡ (image_in b).table = table_is ∙ ap (λ (m : ℕ). words_at m b at) is.table_is ∙ ap (λ (m : ℕ). words_at (table_length b) b m) table_place in
    subst (λ (i : Image). HasBytes i b) (sym (same_image code (image_in b).code statics (image_in b).statics table (image_in b).table h.entry (image_in b).entry e1 e2 is.entry_is e3)) (image_forth b below c.kept)

-- bytes of an image for which there is no memory
pub no_room : (b : List ℕ) (h : Header) → AreBelow 256 b → IsChecked h b → IsFaultOf b F.Memory
no_room b h below c = out_of_memory refl (image_in b) (image_forth b below c.kept)

-- what is written part by part
pub all_written : (heads code statics table o0 o1 o2 o3 o4 : List ℕ) → o0 ≡ [] → o1 ≡ o0 ++ bytes_of_words heads → o2 ≡ o1 ++ bytes_of_words code → o3 ≡ o2 ++ statics → o4 ≡ o3 ++ bytes_of_words table
    → o4 ≡ bytes_of_words heads ++ (bytes_of_words code ++ (statics ++ bytes_of_words table))
all_written heads code statics table o0 o1 o2 o3 o4 e0 e1 e2 e3 e4 =
    let hs = bytes_of_words heads in
    let cs = bytes_of_words code in
    let ts = bytes_of_words table in
    let one : o1 ≡ hs = e1 ∙ ap (λ (l : List ℕ). l ++ hs) e0 in
    let two : o2 ≡ hs ++ cs = e2 ∙ ap (λ (l : List ℕ). l ++ cs) one in
    let three : o3 ≡ (hs ++ cs) ++ statics = e3 ∙ ap (λ (l : List ℕ). l ++ statics) two in
    let four : o4 ≡ ((hs ++ cs) ++ statics) ++ ts = e4 ∙ ap (λ (l : List ℕ). l ++ ts) three in
    four ∙ append_assoc (hs ++ cs) statics ts ∙ append_assoc hs cs (statics ++ ts)
