-- Images and their bytes: what bytes give is the image that has them, and the other way round.
use Rattle.std.proofs.Common.{◌≡◌, ℕ, zero, suc, ◌+◌, ◌*◌, ◌/◌, ◌%◌, ◌^◌, ◌<◌, ◌≤◌, List, [], ◌∷◌, ◌++◌, length, take, drop, get_or, refl, ap, sym, subst, ◌∙◌, arith, length-append, length-drop, drop-cons, inl, inr}
use Rattle.std.proofs.lemmas.List.{get_or-drop, drop-drop, drop_at, take_at, append-nil, length-take, get_or-take, get_or_past, take-append-drop, drop_all}
use Rattle.std.proofs.lemmas.Bool.{cases_lt}
use Rattle.rv_meaning.specs.declared.image.ImageFault.{ImageFault}
use Rattle.rv_meaning.specs.declared.image.ImageFault.TheVariants as F
use Rattle.rv_meaning.specs.Memory.{load, bytes_of_word, bytes_of_words}
use Rattle.rv_meaning.specs.Tables.{IsTable}
use Rattle.rv_meaning.specs.Images.{Image, image, IsLoadable, AllInstructions, magic, version, AreBelow, HasBytes, words_at, entry_in, code_length, statics_length, table_length, statics_start, table_start, image_end, image_in, Keeps}

-- ---- words

pub length-bytes_of_words : (ws : List ℕ) → length (bytes_of_words ws) ≡ 4 * length ws
length-bytes_of_words [] = refl
length-bytes_of_words (w ∷ ws) = omega (arith, length-bytes_of_words ws)

pub length-words_at : (n : ℕ) (b : List ℕ) (at : ℕ) → length (words_at n b at) ≡ n
length-words_at zero b at = refl
length-words_at (suc n) b at = ap suc (length-words_at n b (at + 4))

byte_behind : (b l : List ℕ) (at k j : ℕ) → drop at b ≡ l → j ≡ at + k → get_or b j 0 ≡ get_or l k 0
byte_behind b l at k j e h = ap (λ (m : ℕ). get_or b m 0) h ∙ sym (get_or-drop at b k 0) ∙ ap (λ (m : List ℕ). get_or m k 0) e

pub load_back : (b rest : List ℕ) (at w : ℕ) → w < 2 ^ 32 → drop at b ≡ bytes_of_word w ++ rest → load 4 b at ≡ w
load_back b rest at w h e =
    let x0 = byte_behind b (bytes_of_word w ++ rest) at 0 at e (omega arith) in
    let x1 = byte_behind b (bytes_of_word w ++ rest) at 1 (suc at) e (omega arith) in
    let x2 = byte_behind b (bytes_of_word w ++ rest) at 2 (suc (suc at)) e (omega arith) in
    let x3 = byte_behind b (bytes_of_word w ++ rest) at 3 (suc (suc (suc at))) e (omega arith) in
    omega (arith, x0, x1, x2, x3)

behind : (b rest : List ℕ) (at w : ℕ) → drop at b ≡ bytes_of_word w ++ rest → drop (at + 4) b ≡ rest
behind b rest at w e = sym (drop-drop 4 at b) ∙ ap (drop 4) e

pub words_back : (ws b rest : List ℕ) (at : ℕ) → AreBelow (2 ^ 32) ws → drop at b ≡ bytes_of_words ws ++ rest → words_at (length ws) b at ≡ ws
words_back [] b rest at below e = refl
words_back (w ∷ ws) b rest at below e =
    let first : load 4 b at ≡ w = load_back b (bytes_of_words ws ++ rest) at w (below 0) e in
    let others : words_at (length ws) b (at + 4) ≡ ws = words_back ws b rest (at + 4) (λ k. below (suc k)) (behind b (bytes_of_words ws ++ rest) at w e) in
    rw (first, others) refl

low : (x y : ℕ) → x < 256 → (x + 256 * y) % 256 ≡ x
low x y h = omega arith

high : (x y : ℕ) → x < 256 → (x + 256 * y) / 256 ≡ y
high x y h = omega arith

word_bytes : (b : List ℕ) (at : ℕ) → AreBelow 256 b → bytes_of_word (load 4 b at) ≡ get_or b at 0 ∷ get_or b (suc at) 0 ∷ get_or b (suc (suc at)) 0 ∷ get_or b (suc (suc (suc at))) 0 ∷ []
word_bytes b at below =
    let h0 = below at in
    let h1 = below (suc at) in
    let h2 = below (suc (suc at)) in
    let h3 = below (suc (suc (suc at))) in
    let x0 = get_or b at 0 in
    let x1 = get_or b (suc at) 0 in
    let x2 = get_or b (suc (suc at)) 0 in
    let x3 = get_or b (suc (suc (suc at))) 0 in
    let e0 = high x0 (load 3 b (suc at)) h0 in
    let e1 = high x1 (load 2 b (suc (suc at))) h1 in
    let e2 = high x2 (load 1 b (suc (suc (suc at)))) h2 in
    let l0 = low x0 (load 3 b (suc at)) h0 in
    let l1 = low x1 (load 2 b (suc (suc at))) h1 in
    let l2 = low x2 (load 1 b (suc (suc (suc at)))) h2 in
    let l3 = low x3 0 h3 in
    rw (l0, e0, l1, e1, l2, e2, l3) refl

pub word_front : (b : List ℕ) (at : ℕ) → AreBelow 256 b → at + 4 ≤ length b → drop at b ≡ bytes_of_word (load 4 b at) ++ drop (at + 4) b
word_front b at below h =
    let d0 = drop-cons b at 0 (omega arith) in
    let d1 = drop-cons b (suc at) 0 (omega arith) in
    let d2 = drop-cons b (suc (suc at)) 0 (omega arith) in
    let d3 = drop-cons b (suc (suc (suc at))) 0 (omega arith) in
    let n : at + 4 ≡ suc (suc (suc (suc at))) = omega arith in
    let x0 = get_or b at 0 in
    let x1 = get_or b (suc at) 0 in
    let x2 = get_or b (suc (suc at)) 0 in
    let x3 = get_or b (suc (suc (suc at))) 0 in
    let cells : drop at b ≡ x0 ∷ x1 ∷ x2 ∷ x3 ∷ drop (suc (suc (suc (suc at)))) b = d0 ∙ ap (λ (l : List ℕ). x0 ∷ l) (d1 ∙ ap (λ (l : List ℕ). x1 ∷ l) (d2 ∙ ap (λ (l : List ℕ). x2 ∷ l) d3)) in
    let word : x0 ∷ x1 ∷ x2 ∷ x3 ∷ drop (at + 4) b ≡ bytes_of_word (load 4 b at) ++ drop (at + 4) b = ap (λ (l : List ℕ). l ++ drop (at + 4) b) (sym (word_bytes b at below)) in
    cells ∙ ap (λ (m : ℕ). x0 ∷ x1 ∷ x2 ∷ x3 ∷ drop m b) (sym n) ∙ word

pub words_front : (n : ℕ) (b : List ℕ) (at : ℕ) → AreBelow 256 b → at + 4 * n ≤ length b → drop at b ≡ bytes_of_words (words_at n b at) ++ drop (at + 4 * n) b
words_front zero b at below h = ap (λ (m : ℕ). drop m b) (omega arith)
words_front (suc n) b at below h =
    let others = words_front n b (at + 4) below (omega arith) in
    let place : at + 4 * suc n ≡ at + 4 + 4 * n = omega arith in
    word_front b at below (omega arith) ∙ ap (λ (l : List ℕ). bytes_of_word (load 4 b at) ++ l) (others ∙ ap (λ (m : ℕ). bytes_of_words (words_at n b (at + 4)) ++ drop m b) (sym place))

load_small : (b : List ℕ) (at : ℕ) → AreBelow 256 b → load 4 b at < 2 ^ 32
load_small b at below =
    let h0 = below at in
    let h1 = below (suc at) in
    let h2 = below (suc (suc at)) in
    let h3 = below (suc (suc (suc at))) in
    omega arith

words_small : (n : ℕ) (b : List ℕ) (at : ℕ) → AreBelow 256 b → AreBelow (2 ^ 32) (words_at n b at)
words_small zero b at below k = omega arith
words_small (suc n) b at below zero = load_small b at below
words_small (suc n) b at below (suc k) = words_small n b (at + 4) below k

-- ---- the bytes of an image

record IsReadBack (i : Image) (b : List ℕ) : Type 0 where
  magic_is : load 4 b 0 ≡ magic
  version_is : load 4 b 4 ≡ version
  entry_is : entry_in b ≡ i.entry
  code_length_is : code_length b ≡ length i.code
  statics_length_is : statics_length b ≡ length i.statics
  table_length_is : table_length b ≡ length i.table
  code_is : words_at (length i.code) b 24 ≡ i.code
  statics_is : take (length i.statics) (drop (24 + 4 * length i.code) b) ≡ i.statics
  table_is : words_at (length i.table) b (24 + 4 * length i.code + length i.statics) ≡ i.table
  length_is : length b ≡ 24 + 4 * length i.code + length i.statics + 4 * length i.table

abbrev header : Image → List ℕ
header i = magic ∷ version ∷ i.entry ∷ length i.code ∷ length i.statics ∷ length i.table ∷ []

header_small : (i : Image) → IsLoadable i → AreBelow (2 ^ 32) (header i)
header_small i l zero = omega arith
header_small i l (suc zero) = omega arith
header_small i l (suc (suc zero)) = omega (arith, l.entry_in_code, l.code_fits)
header_small i l (suc (suc (suc zero))) = omega (arith, l.code_fits)
header_small i l (suc (suc (suc (suc zero)))) = omega (arith, l.statics_fit)
header_small i l (suc (suc (suc (suc (suc zero))))) = omega (arith, l.table_fits)
header_small i l (suc (suc (suc (suc (suc (suc k)))))) = omega arith

read_back : (i : Image) (b : List ℕ) → HasBytes i b → IsReadBack i b
read_back i b h =
    let cs = bytes_of_words i.code in
    let ts = bytes_of_words i.table in
    let nc = length-bytes_of_words i.code in
    let nt = length-bytes_of_words i.table in
    let parts = cs ++ (i.statics ++ ts) in
    let heads : words_at 6 b 0 ≡ header i = words_back (header i) b parts 0 (header_small i h.loadable) h.spelled in
    let d24 : drop 24 b ≡ parts = ap (drop 24) h.spelled in
    let d_statics : drop (24 + 4 * length i.code) b ≡ i.statics ++ ts = sym (drop-drop (4 * length i.code) 24 b) ∙ ap (drop (4 * length i.code)) d24 ∙ drop_at cs (i.statics ++ ts) (4 * length i.code) nc in
    let d_table : drop (24 + 4 * length i.code + length i.statics) b ≡ ts = sym (drop-drop (length i.statics) (24 + 4 * length i.code) b) ∙ ap (drop (length i.statics)) d_statics ∙ drop_at i.statics ts (length i.statics) refl in
    record {
      magic_is = cc;
      version_is = cc;
      entry_is = cc;
      code_length_is = cc;
      statics_length_is = cc;
      table_length_is = cc;
      code_is = words_back i.code b (i.statics ++ ts) 24 h.code_words d24;
      statics_is = ap (take (length i.statics)) d_statics ∙ take_at i.statics ts (length i.statics) refl;
      table_is = words_back i.table b [] (24 + 4 * length i.code + length i.statics) h.table_words (d_table ∙ sym (append-nil ts));
      length_is = ap length h.spelled ∙ omega (arith, length-append cs (i.statics ++ ts), length-append i.statics ts, nc, nt);
    }

pub same_image : (c c' s s' t t' : List ℕ) (e e' : ℕ) → c ≡ c' → s ≡ s' → e ≡ e' → t ≡ t' → image c s e t ≡ image c' s' e' t'
same_image c c' s s' t t' e e' p q r u = cc

-- bytes give the image that has them
pub image_back : (i : Image) (b : List ℕ) → HasBytes i b → image_in b ≡ i
image_back i b h =
    let r = read_back i b h in
    let code = ap (λ (n : ℕ). words_at n b 24) r.code_length_is ∙ r.code_is in
    let place : statics_start b ≡ 24 + 4 * length i.code = omega (arith, r.code_length_is) in
    let place_t : table_start b ≡ 24 + 4 * length i.code + length i.statics = omega (arith, r.code_length_is, r.statics_length_is) in
    let statics = ap (λ (n : ℕ). take n (drop (statics_start b) b)) r.statics_length_is ∙ ap (λ (m : ℕ). take (length i.statics) (drop m b)) place ∙ r.statics_is in
    let table = ap (λ (n : ℕ). words_at n b (table_start b)) r.table_length_is ∙ ap (λ (m : ℕ). words_at (length i.table) b m) place_t ∙ r.table_is in
    same_image _ _ _ _ _ _ _ _ code statics r.entry_is table

below_part : (limit n at : ℕ) (b : List ℕ) → 0 < limit → AreBelow limit b → AreBelow limit (take n (drop at b))
below_part limit n at b h below k =
    elim (cases_lt k n) [
      | inl lt ↦ rw (get_or-take n (drop at b) k 0 lt, get_or-drop at b k 0) (below (at + k))
      | inr le ↦ rw (get_or_past (take n (drop at b)) k 0 (omega (arith, length-take n (drop at b)))) h
    ]

-- what bytes give has them where they keep all rules
pub image_forth : (b : List ℕ) → AreBelow 256 b → ((fault : ImageFault) → Keeps fault b) → HasBytes (image_in b) b
image_forth b below rules =
    let fit = rules F.Length in
    let code = words_at (code_length b) b 24 in
    let behind_code = drop (statics_start b) b in
    let statics = take (statics_length b) behind_code in
    let table = words_at (table_length b) b (table_start b) in
    let nc : length code ≡ code_length b = length-words_at (code_length b) b 24 in
    let nt : length table ≡ table_length b = length-words_at (table_length b) b (table_start b) in
    let left = length-drop (statics_start b) b in
    let whole = fit.whole in
    let ns : length statics ≡ statics_length b = omega (arith, length-take (statics_length b) behind_code, left, whole) in
    let entry = rules F.Entry in
    let heads = words_front 6 b 0 below (omega (arith, fit.header)) in
    let m = (rules F.Magic).1 in
    let v = (rules F.Version).1 in
    let h_is : words_at 6 b 0 ≡ header (image_in b) = rw (m, v, nc, ns, nt) refl in
    let e1 : b ≡ bytes_of_words (header (image_in b)) ++ drop 24 b = heads ∙ ap (λ (l : List ℕ). bytes_of_words l ++ drop 24 b) h_is in
    let e2 : drop 24 b ≡ bytes_of_words code ++ behind_code = words_front (code_length b) b 24 below (omega (arith, whole)) in
    let e3 : behind_code ≡ statics ++ drop (statics_length b) behind_code = sym (take-append-drop (statics_length b) behind_code) in
    let e4 : drop (statics_length b) behind_code ≡ drop (table_start b) b = drop-drop (statics_length b) (statics_start b) b in
    let e5 : drop (table_start b) b ≡ bytes_of_words table ++ drop (image_end b) b = words_front (table_length b) b (table_start b) below whole in
    let e6 : drop (image_end b) b ≡ [] = drop_all (image_end b) b (rules F.Trailing) in
    let e7 : drop (table_start b) b ≡ bytes_of_words table = e5 ∙ ap (λ (l : List ℕ). bytes_of_words table ++ l) e6 ∙ append-nil (bytes_of_words table) in
    record {
      loadable = record {
        some_code = omega (arith, nc, fit.some_code);
        code_fits = omega (arith, nc, fit.code_fits);
        decodable = rules F.Word;
        entry_aligned = entry.0;
        entry_in_code = omega (arith, nc, entry.1);
        statics_fit = omega (arith, ns, fit.statics_fit);
        table_fits = omega (arith, nt, fit.table_fits);
        table_lists = rules F.Table;
      };
      code_words = words_small (code_length b) b 24 below;
      static_bytes = below_part 256 (statics_length b) (statics_start b) b (omega arith) below;
      table_words = words_small (table_length b) b (table_start b) below;
      spelled = e1 ∙ ap (λ (l : List ℕ). bytes_of_words (header (image_in b)) ++ l) (e2 ∙ ap (λ (l : List ℕ). bytes_of_words code ++ l) (e3 ∙ ap (λ (l : List ℕ). statics ++ l) (e4 ∙ e7)));
    }

pub keeps : (i : Image) (b : List ℕ) (fault : ImageFault) → HasBytes i b → Keeps fault b
keeps i b F.Magic h = let r = read_back i b h in (omega (arith, r.length_is), r.magic_is)
keeps i b F.Version h = let r = read_back i b h in (omega (arith, r.length_is), r.version_is)
keeps i b F.Length h =
    let r = read_back i b h in
    let l = h.loadable in
    record {
      header = omega (arith, r.length_is);
      some_code = omega (arith, r.code_length_is, l.some_code);
      code_fits = omega (arith, r.code_length_is, l.code_fits);
      statics_fit = omega (arith, r.statics_length_is, l.statics_fit);
      table_fits = omega (arith, r.table_length_is, l.table_fits);
      whole = omega (arith, r.length_is, r.code_length_is, r.statics_length_is, r.table_length_is);
    }
keeps i b F.Word h = subst (λ (j : Image). AllInstructions j.code) (sym (image_back i b h)) h.loadable.decodable
keeps i b F.Table h = subst (λ (j : Image). IsTable j.table) (sym (image_back i b h)) h.loadable.table_lists
keeps i b F.Entry h =
    let r = read_back i b h in
    let l = h.loadable in
    (omega (arith, r.entry_is, l.entry_aligned), omega (arith, r.entry_is, r.code_length_is, l.entry_in_code))
keeps i b F.Trailing h = let r = read_back i b h in omega (arith, r.length_is, r.code_length_is, r.statics_length_is, r.table_length_is)
keeps i b F.Memory h = tt
