-- Format lists in memory: the services read what the meaning goes by.
use Rattle.std.proofs.Common.{◌≡◌, ℕ, zero, suc, ◌+◌, ◌*◌, ◌/◌, ◌%◌, ◌^◌, ◌<◌, ◌≤◌, List, [], ◌∷◌, ◌++◌, length, length-append, Option, Some, None, true, false, refl, ap, ◌∙◌, subst, arith, lit<}
use Rattle.std.specs.Prelude.{slice_index, nat_le, cond, ◌&&◌, ◌==◌}
use Rattle.std.proofs.lemmas.Bool.Decides.{nat_tests}
use Rattle.std.proofs.lemmas.Bool.{le-leb}
use Rattle.rv_meaning.specs.Memory.{load, bytes_of_words}
use Rattle.pli_language.specs.Tree as T
use Rattle.pli_language.specs.Formats.{is_width, is_times}
use Rattle.pli_meaning.specs.Streaming.{FormatItem, DataFormat, ControlFormat, FixedItem, TextItem, SpaceItem, SkipItem, ColumnItem, repeated, format_items}
use Rattle.pli_serving.specs.Bytes.{Layout, is_data, word_at}
use Rattle.pli_serving.specs.Finding.{Call}
use Rattle.pli_serving.specs.FormatLists.{ReadItem, ReadOne, ReadList, ReadItems, read_if, item_of, item_at, items_before, list_then, item_then, items_at, all_items, formats_at}
use Rattle.pli_coding.specs.StaticForms.{formats_length, formats_words, width_or_none}
use Rattle.pli_headline.specs.ProvedSoFar.{IsTimes, IsWidthIf, AreProvedFormats, HasFormat}

-- ---- words one behind the other

abbrev pub WordsAt : List ℕ → ℕ → List ℕ → Type 0
WordsAt m at [] = Unit {0}
WordsAt m at (w ∷ ws) = (load 4 m at ≡ w) × WordsAt m (at + 4) ws

abbrev pub AreWords : List ℕ → Type 0
AreWords [] = Unit {0}
AreWords (w ∷ ws) = (w < 2 ^ 32) × AreWords ws

four_bytes : (m : List ℕ) (at w : ℕ) → w < 2 ^ 32 → slice_index m at ≡ w % 256 → slice_index m (suc at) ≡ w / 256 % 256 → slice_index m (suc (suc at)) ≡ w / 256 / 256 % 256 → slice_index m (suc (suc (suc at))) ≡ w / 256 / 256 / 256 % 256 → load 4 m at ≡ w
four_bytes m at w h e0 e1 e2 e3 = omega (arith, h, e0, e1, e2, e3)

pub words_stand : (m : List ℕ) (at : ℕ) (ws : List ℕ) → AreWords ws → ((k : ℕ) → k < length (bytes_of_words ws) → slice_index m (at + k) ≡ slice_index (bytes_of_words ws) k) → WordsAt m at ws
words_stand m at [] small' h = tt
words_stand m at (w ∷ ws) small' h =
    let e0 : at ≡ at + 0 = omega arith in
    let e1 : suc at ≡ at + 1 = omega arith in
    let e2 : suc (suc at) ≡ at + 2 = omega arith in
    let e3 : suc (suc (suc at)) ≡ at + 3 = omega arith in
    let byte = slice_index m in (
      four_bytes m at w small'.0 (ap byte e0 ∙ h 0 (omega arith)) (ap byte e1 ∙ h 1 (omega arith)) (ap byte e2 ∙ h 2 (omega arith)) (ap byte e3 ∙ h 3 (omega arith)),
      words_stand m (at + 4) ws small'.1 (λ k below.
          let e : at + 4 + k ≡ at + suc (suc (suc (suc k))) = omega arith in
          ap byte e ∙ h (suc (suc (suc (suc k)))) (omega arith)),
    )

-- ---- the words of a format list

-- all its items, with those of lists in it
abbrev mutual
  pub items_within : T.Formats → ℕ
  items_within T.NoFormat = 0
  items_within (T.FormatThen place repetition first rest) = suc (items_in first + items_within rest)

  pub items_in : T.Format → ℕ
  items_in (T.FormatList formats) = items_within formats
  items_in _ = 0

pub length_within : (fs : T.Formats) → formats_length fs ≤ items_within fs
length_within T.NoFormat = omega arith
length_within (T.FormatThen place r first rest) = let n = length_within rest in omega (arith, n)

words_both : (ws vs : List ℕ) → AreWords ws → AreWords vs → AreWords (ws ++ vs)
words_both [] vs h k = k
words_both (w ∷ ws) vs h k = (h.0, words_both ws vs h.1 k)

-- an item's words, with its own items and those behind it
times_words : (kind r n : ℕ) (ws : List ℕ) → kind < 2 ^ 32 → IsTimes r → n < 2 ^ 32 → AreWords ws → AreWords (kind ∷ r ∷ n ∷ ws)
times_words kind r n ws small' times fits h = let most = times.1 in (small', (omega (arith, most), (fits, h)))

few : (n : ℕ) → IsTimes n → n < 2 ^ 32
few n h = let most = h.1 in omega (arith, most)

pub formats_are_words : (fs : T.Formats) → items_within fs < 2 ^ 32 → AreProvedFormats fs → AreWords (formats_words fs)
formats_are_words T.NoFormat fits are = tt
formats_are_words (T.FormatThen place r (T.FixedFormat w) rest) fits are =
    let wide = are.1.0.1 in
    times_words 1 r w (formats_words rest) (lit< tt) are.0 (omega (arith, wide)) (formats_are_words rest (omega (arith, fits)) are.1.1)
formats_are_words (T.FormatThen place r (T.TextFormat None) rest) fits are =
    times_words 2 r 0 (formats_words rest) (lit< tt) are.0 (lit< tt) (formats_are_words rest (omega (arith, fits)) are.1.1)
formats_are_words (T.FormatThen place r (T.TextFormat (Some w)) rest) fits are =
    let wide = are.1.0.1 in
    times_words 2 r w (formats_words rest) (lit< tt) are.0 (omega (arith, wide)) (formats_are_words rest (omega (arith, fits)) are.1.1)
formats_are_words (T.FormatThen place r (T.SpaceFormat n) rest) fits are =
    times_words 3 r n (formats_words rest) (lit< tt) are.0 (few n are.1.0) (formats_are_words rest (omega (arith, fits)) are.1.1)
formats_are_words (T.FormatThen place r (T.SkipFormat n) rest) fits are =
    times_words 4 r n (formats_words rest) (lit< tt) are.0 (few n are.1.0) (formats_are_words rest (omega (arith, fits)) are.1.1)
formats_are_words (T.FormatThen place r (T.ColumnFormat n) rest) fits are =
    times_words 5 r n (formats_words rest) (lit< tt) are.0 (few n are.1.0) (formats_are_words rest (omega (arith, fits)) are.1.1)
formats_are_words (T.FormatThen place r (T.FormatList fs) rest) fits are =
    let own = length_within fs in
    times_words 6 r (formats_length fs) (formats_words fs ++ formats_words rest) (lit< tt) are.0 (omega (arith, fits, own))
    (words_both (formats_words fs) (formats_words rest) (formats_are_words fs (omega (arith, fits)) are.1.0.0) (formats_are_words rest (omega (arith, fits)) are.1.1))

pub words_length : (fs : T.Formats) → AreProvedFormats fs → length (formats_words fs) ≡ 3 * items_within fs
words_length T.NoFormat are = refl
words_length (T.FormatThen place r (T.FixedFormat w) rest) are = let e = words_length rest are.1.1 in omega (arith, e)
words_length (T.FormatThen place r (T.TextFormat w) rest) are = let e = words_length rest are.1.1 in omega (arith, e)
words_length (T.FormatThen place r (T.SpaceFormat n) rest) are = let e = words_length rest are.1.1 in omega (arith, e)
words_length (T.FormatThen place r (T.SkipFormat n) rest) are = let e = words_length rest are.1.1 in omega (arith, e)
words_length (T.FormatThen place r (T.ColumnFormat n) rest) are = let e = words_length rest are.1.1 in omega (arith, e)
words_length (T.FormatThen place r (T.FormatList fs) rest) are =
    let own = words_length fs are.1.0.0 in
    let e = words_length rest are.1.1 in
    let both = length-append (formats_words fs) (formats_words rest) in
    omega (arith, own, e, both)

-- ---- one item

within : (low high n : ℕ) → low ≤ n → n ≤ high → nat_le low n && nat_le n high ≡ true
within low high n h k = ap (λ u. u && nat_le n high) (le-leb low n h) ∙ le-leb n high k

pub is_data_there : (layout : Layout) (at n : ℕ) → layout.code_bytes ≤ at → at + n ≤ layout.end → is_data layout at n ≡ true
is_data_there layout at n low high =
    ap (λ u. u && nat_le (at + n) layout.end) (le-leb layout.code_bytes at low) ∙ le-leb (at + n) layout.end high

item_read : (c : Call) (at kind repetition number : ℕ) (item : ReadItem) → is_data c.layout at 12 ≡ true → is_times repetition ≡ true → word_at at c.memory ≡ kind → word_at (at + 4) c.memory ≡ repetition → word_at (at + 8) c.memory ≡ number → item_of kind number ≡ item → item_at c at ≡ item
item_read c at kind repetition number item inside times kind_is repeats number_is is =
    let m = c.memory in
    ap (λ u. read_if (u && is_times (word_at (at + 4) m)) (item_of (word_at at m) (word_at (at + 8) m))) inside
    ∙ ap (λ u. read_if (is_times u) (item_of (word_at at m) (word_at (at + 8) m))) repeats
    ∙ ap (λ u. read_if u (item_of (word_at at m) (word_at (at + 8) m))) times
    ∙ ap (λ u. item_of u (word_at (at + 8) m)) kind_is
    ∙ ap (λ u. item_of kind u) number_is
    ∙ is

-- the words of one item, behind those the rest
item_words : (c : Call) (at kind r number : ℕ) (ws : List ℕ) (item : ReadItem) → c.layout.code_bytes ≤ at → at + 12 ≤ c.layout.end → IsTimes r → WordsAt c.memory at (kind ∷ r ∷ number ∷ ws) → item_of kind number ≡ item → item_at c at ≡ item
item_words c at kind r number ws item low high times words is =
    let two : at + 8 ≡ at + 4 + 4 = omega arith in
    item_read c at kind r number item (is_data_there c.layout at 12 low high) (within 1 1000 r times.0 times.1) words.0 words.1.0 (ap (load 4 c.memory) two ∙ words.1.1.0) is

words_behind : (m : List ℕ) (at kind r number : ℕ) (ws : List ℕ) → WordsAt m at (kind ∷ r ∷ number ∷ ws) → WordsAt m (at + 12) ws
words_behind m at kind r number ws words =
    let three : at + 4 + 4 + 4 ≡ at + 12 = omega arith in
    subst (λ n. WordsAt m n ws) three words.1.1.1

words_front : (m : List ℕ) (at : ℕ) (ws vs : List ℕ) → WordsAt m at (ws ++ vs) → WordsAt m at ws
words_front m at [] vs h = tt
words_front m at (w ∷ ws) vs h = (h.0, words_front m (at + 4) ws vs h.1)

words_back : (m : List ℕ) (at : ℕ) (ws vs : List ℕ) → WordsAt m at (ws ++ vs) → WordsAt m (at + 4 * length ws) vs
words_back m at [] vs h = let e : at ≡ at + 0 = omega arith in subst (λ n. WordsAt m n vs) e h
words_back m at (w ∷ ws) vs h =
    let e : at + 4 + 4 * length ws ≡ at + 4 * length (w ∷ ws) = omega arith in
    subst (λ n. WordsAt m n vs) e (words_back m (at + 4) ws vs h.1)

-- ---- items one behind the other

abbrev read_to : List FormatItem → ℕ → Option ReadItems
read_to items behind = Some (record { items = items; behind = behind })

-- an item by itself, and those behind it
one_read : (most : ℕ) (c : Call) (at kind r number left : ℕ) (ws : List ℕ) (f : FormatItem) (items : List FormatItem) (end : ℕ) → c.layout.code_bytes ≤ at → at + 12 ≤ c.layout.end → IsTimes r → WordsAt c.memory at (kind ∷ r ∷ number ∷ ws) → item_of kind number ≡ ReadOne f → items_at most c left (at + 12) ≡ read_to items end → items_at (suc most) c (suc left) at ≡ read_to (repeated r (f ∷ []) ++ items) end
one_read most c at kind r number left ws f items end low high times words is read =
    ap (λ u. item_then u (word_at (at + 4) c.memory) (at + 12) left (λ count behind. items_at most c count behind)) (item_words c at kind r number ws (ReadOne f) low high times words is)
    ∙ ap (λ u. items_before u (f ∷ []) (items_at most c left (at + 12))) words.1.0
    ∙ ap (items_before r (f ∷ [])) read

-- a list, and the items behind it
list_read : (most : ℕ) (c : Call) (at r number left : ℕ) (ws : List ℕ) (own items : List FormatItem) (mid end : ℕ) → c.layout.code_bytes ≤ at → at + 12 ≤ c.layout.end → IsTimes r → WordsAt c.memory at (6 ∷ r ∷ number ∷ ws) → 1 ≤ number → items_at most c number (at + 12) ≡ read_to own mid → items_at most c left mid ≡ read_to items end → items_at (suc most) c (suc left) at ≡ read_to (repeated r own ++ items) end
list_read most c at r number left ws own items mid end low high times words some inner read =
    let is : item_of 6 number ≡ ReadList number = ap (λ u. read_if u (ReadList number)) (le-leb 1 number some) in
    ap (λ u. item_then u (word_at (at + 4) c.memory) (at + 12) left (λ count behind. items_at most c count behind)) (item_words c at 6 r number ws (ReadList number) low high times words is)
    ∙ ap (λ u. list_then u (items_at most c number (at + 12)) left (λ count behind. items_at most c count behind)) words.1.0
    ∙ ap (λ u. list_then r u left (λ count behind. items_at most c count behind)) inner
    ∙ ap (items_before r own) read

has_length : (fs : T.Formats) → HasFormat fs → 1 ≤ formats_length fs
has_length T.NoFormat has = absurd has
has_length (T.FormatThen place r first rest) has = omega arith

-- an A item
text_read : (width : Option ℕ) → IsWidthIf width → item_of 2 (width_or_none width) ≡ ReadOne (DataFormat (TextItem width))
text_read None is = refl
text_read (Some w) is =
    let f = DataFormat (TextItem (Some w)) in
    let some : (w == 0) ≡ false = let n = is.0 in grind (arith, nat_tests) in
    ap (λ u. cond u (ReadOne (DataFormat (TextItem None))) (read_if (is_width w) (ReadOne f))) some
    ∙ ap (λ u. read_if u (ReadOne f)) (within 1 1024 w is.0 is.1)

-- an item that stands alone, and the list behind it
alone_read : (most : ℕ) (c : Call) (at kind r number : ℕ) (f : FormatItem) (rest : T.Formats) (size : ℕ) → size ≡ suc (items_within rest) → c.layout.code_bytes ≤ at → at + 12 * size ≤ c.layout.end → IsTimes r → WordsAt c.memory at (kind ∷ r ∷ number ∷ formats_words rest) → item_of kind number ≡ ReadOne f → items_at most c (formats_length rest) (at + 12) ≡ read_to (format_items rest) (at + 12 + 12 * items_within rest) → items_at (suc most) c (suc (formats_length rest)) at ≡ read_to (repeated r (f ∷ []) ++ format_items rest) (at + 12 * size)
alone_read most c at kind r number f rest size one low high times words is read =
    let end : at + 12 + 12 * items_within rest ≡ at + 12 * size = omega (arith, one) in
    one_read most c at kind r number (formats_length rest) (formats_words rest) f (format_items rest) _ low (omega (arith, high, one)) times words is read
    ∙ ap (read_to (repeated r (f ∷ []) ++ format_items rest)) end

items_read : (fs : T.Formats) (most : ℕ) (c : Call) (at : ℕ) → AreProvedFormats fs → items_within fs ≤ most → c.layout.code_bytes ≤ at → at + 12 * items_within fs ≤ c.layout.end → WordsAt c.memory at (formats_words fs) → items_at most c (formats_length fs) at ≡ read_to (format_items fs) (at + 12 * items_within fs)
items_read T.NoFormat most c at are enough low high words =
    let e : at ≡ at + 0 = omega arith in
    ap (read_to []) e
items_read (T.FormatThen place r first rest) zero c at are enough low high words = absurd (omega (arith, enough))
items_read (T.FormatThen place r (T.FixedFormat w) rest) (suc most) c at are enough low high words =
    let f = DataFormat (FixedItem w) in
    alone_read most c at 1 r w f rest (suc (0 + items_within rest)) (omega arith) low high are.0 words (ap (λ u. read_if u (ReadOne f)) (within 1 1024 w are.1.0.0 are.1.0.1))
    (items_read rest most c (at + 12) are.1.1 (omega (arith, enough)) (omega (arith, low)) (omega (arith, high)) (words_behind c.memory at 1 r w (formats_words rest) words))
items_read (T.FormatThen place r (T.TextFormat width) rest) (suc most) c at are enough low high words =
    let f = DataFormat (TextItem width) in
    let n = width_or_none width in
    alone_read most c at 2 r n f rest (suc (0 + items_within rest)) (omega arith) low high are.0 words (text_read width are.1.0)
    (items_read rest most c (at + 12) are.1.1 (omega (arith, enough)) (omega (arith, low)) (omega (arith, high)) (words_behind c.memory at 2 r n (formats_words rest) words))
items_read (T.FormatThen place r (T.SpaceFormat n) rest) (suc most) c at are enough low high words =
    let f = ControlFormat (SpaceItem n) in
    alone_read most c at 3 r n f rest (suc (0 + items_within rest)) (omega arith) low high are.0 words (ap (λ u. read_if u (ReadOne f)) (within 1 1000 n are.1.0.0 are.1.0.1))
    (items_read rest most c (at + 12) are.1.1 (omega (arith, enough)) (omega (arith, low)) (omega (arith, high)) (words_behind c.memory at 3 r n (formats_words rest) words))
items_read (T.FormatThen place r (T.SkipFormat n) rest) (suc most) c at are enough low high words =
    let f = ControlFormat (SkipItem n) in
    alone_read most c at 4 r n f rest (suc (0 + items_within rest)) (omega arith) low high are.0 words (ap (λ u. read_if u (ReadOne f)) (within 1 1000 n are.1.0.0 are.1.0.1))
    (items_read rest most c (at + 12) are.1.1 (omega (arith, enough)) (omega (arith, low)) (omega (arith, high)) (words_behind c.memory at 4 r n (formats_words rest) words))
items_read (T.FormatThen place r (T.ColumnFormat n) rest) (suc most) c at are enough low high words =
    let f = ControlFormat (ColumnItem n) in
    alone_read most c at 5 r n f rest (suc (0 + items_within rest)) (omega arith) low high are.0 words (ap (λ u. read_if u (ReadOne f)) (within 1 1000 n are.1.0.0 are.1.0.1))
    (items_read rest most c (at + 12) are.1.1 (omega (arith, enough)) (omega (arith, low)) (omega (arith, high)) (words_behind c.memory at 5 r n (formats_words rest) words))
items_read (T.FormatThen place r (T.FormatList fs) rest) (suc most) c at are enough low high words =
    let m = c.memory in
    let own = formats_words fs in
    let behind = words_behind m at 6 r (formats_length fs) (own ++ formats_words rest) words in
    let size = words_length fs are.1.0.0 in
    let mid : at + 12 + 4 * length own ≡ at + 12 + 12 * items_within fs = omega (arith, size) in
    let last : at + 12 + 12 * items_within fs + 12 * items_within rest ≡ at + 12 * suc (items_within fs + items_within rest) = omega arith in
    let back = subst (λ n. WordsAt m n (formats_words rest)) mid (words_back m (at + 12) own (formats_words rest) behind) in
    list_read most c at r (formats_length fs) (formats_length rest) (own ++ formats_words rest) (format_items fs) (format_items rest) _ _ low (omega (arith, high)) are.0 words (has_length fs are.1.0.1)
    (items_read fs most c (at + 12) are.1.0.0 (omega (arith, enough)) (omega (arith, low)) (omega (arith, high)) (words_front m (at + 12) own (formats_words rest) behind))
    (items_read rest most c (at + 12 + 12 * items_within fs) are.1.1 (omega (arith, enough)) (omega (arith, low)) (omega (arith, high)) back)
    ∙ ap (read_to (repeated r (format_items fs) ++ format_items rest)) last

-- ---- the list

pub formats_read : (fs : T.Formats) (c : Call) (at : ℕ) → AreProvedFormats fs → HasFormat fs → c.layout.code_bytes ≤ at → at + 4 + 12 * items_within fs ≤ c.layout.end → WordsAt c.memory at (formats_length fs ∷ formats_words fs) → formats_at c at ≡ Some (format_items fs)
formats_read fs c at are has low high words =
    let n = formats_length fs in
    let there = is_data_there c.layout at 4 low (omega (arith, high)) in
    let some = le-leb 1 n (has_length fs has) in
    let read : ℕ → Option (List FormatItem) = λ u. all_items (items_at c.layout.end c u (at + 4)) in
    ap (λ u. cond (is_data c.layout at 4 && nat_le 1 u) (read u) None) words.0
    ∙ ap (λ u. cond (u && nat_le 1 n) (read n) None) there
    ∙ ap (λ u. cond u (read n) None) some
    ∙ ap all_items (items_read fs c.layout.end c (at + 4) are (omega (arith, high)) (omega (arith, low)) high words.1)
