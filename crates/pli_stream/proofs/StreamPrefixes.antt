-- What reading tells of the beginnings of what stands behind GET and PUT.
use Rattle.std.proofs.Common.{◌≡◌, ℕ, zero, suc, ◌<◌, ◌≤◌, List, [], ◌∷◌, ◌++◌, length, Option, Some, None, Bool, true, false, Ok, Err, refl, sym, ap, ◌∙◌, arith}
use Rattle.std.specs.Prelude.{⊤, ◌||◌, if◌then◌else◌}
use Rattle.pli_language.specs.declared.token.Word.TheVariants as W
use Rattle.pli_language.specs.declared.token.Symbol.TheVariants as S
use Rattle.pli_language.specs.declared.token.Kind.TheVariants as K
use Rattle.pli_language.specs.declared.token.Token.{Token}
use Rattle.pli_language.specs.declared.expr.Place.{Place}
use Rattle.pli_language.specs.Marks.{Marks, no_marks}
use Rattle.pli_language.specs.Spells.{next_kind, place_of}
use Rattle.pli_language.specs.Formats.{is_times, Direction}
use Rattle.pli_language.specs.Heads.{file_word}
use Rattle.pli_language.specs.Tree as T
use Rattle.pli_phrase.specs.Cursor.{Cursor, Stuck, LeavesOut, Read, ◌>>=◌}
use Rattle.pli_phrase.specs.Tokens.{is_terminal, starts, taken}
use Rattle.pli_phrase.specs.Reading.{exprs_from}
use Rattle.pli_phrase.proofs.Prefixes.{longer, Prefixes, Next, StartsNot, prefix_ok, prefix_as, prefix_bind, prefix_taken, next_not, next_allows, steady, steady_err}
use Rattle.pli_phrase.proofs.PhrasePrefixes.{stops_exprs, prefix_exprs, prefix_symbol, prefix_when}
use Rattle.pli_phrase.proofs.PrefixesAt.{At, at, anything, at_one, at_all, at_as, at_some, at_ok, at_test, at_end_test, at_bind, at_map, loop_at, bind_same, prefix_test, prefix_marked, taken_first, taken_other, taken_none}
use Rattle.pli_attributes.specs.Lists.{enclosed_from}
use Rattle.pli_attributes.proofs.Posts.{post_is}
use Rattle.pli_attributes.proofs.Tokens.{is_word}
use Rattle.pli_attributes.proofs.ListPrefixes.{prefix_enclosed}
use Rattle.pli_attributes.specs.Reading.{starts_number}
use Rattle.pli_stream.specs.Reading.{checked, number_or_one_from, formats_from, by_formats, pair_from, further_pairs, pairs_from, file_from, skip_with, skip_from, late_file_from, options_end, options_from, edit_from, Transfer, moved, is_left_out_kind, transfer_from}
use Rattle.pli_stream.proofs.Pairs.{pair_post}
use Rattle.pli_stream.proofs.FormatPrefixes.{NoOpen, Fresh, prefix_number_or_one, prefix_formats}

-- ---- options

-- no option of GET or PUT follows, and nothing that belongs to the one before
abbrev pub NoOption : List Token → Type 0
NoOption w = StartsNot (K.Name W.File) w × (StartsNot (K.Name W.Skip) w × NoOpen w)

abbrev noted : Bool → Place → Marks → Marks
noted good p m = (checked good p (at [] m)).marks

module _ {F : List Token → Type 0} (ends : (w : List Token) → F w → NoOption w) where
  prefix_file : (d : Direction) → Prefixes F F (file_from d)
  unfolding file_from
  prefix_file d =
      prefix_when (K.Name W.File) (λ c. taken (K.Name W.File) c >>= λ t. enclosed_from (taken (K.Name (file_word d))) t.1 >>= λ u. Ok (true, u.1)) (λ c. Ok (false, c))
      (steady (prefix_bind {F = F} (taken (K.Name W.File)) (λ t. enclosed_from (taken (K.Name (file_word d))) t.1 >>= λ u. Ok (true, u.1)) (prefix_taken (K.Name W.File) refl)
      (λ t. prefix_bind (enclosed_from (taken (K.Name (file_word d)))) (λ u. Ok (true, u.1)) (prefix_enclosed (taken (K.Name (file_word d))) (prefix_taken (K.Name (file_word d)) (is_word (file_word d))) (λ w h. tt)) (λ u. prefix_ok true) (λ w h. tt))
      (λ w h. tt)))
      (prefix_ok false) (λ w h. (ends w h).0)

  prefix_skip : Prefixes F F skip_from
  unfolding skip_from
  prefix_skip =
      prefix_when (K.Name W.Skip) (λ c. taken (K.Name W.Skip) c >>= λ t. number_or_one_from t.1 >>= λ n. skip_with t.0 n) (λ c. Ok (None, c))
      (steady (prefix_bind {F = F} (taken (K.Name W.Skip)) (λ t. number_or_one_from t.1 >>= λ n. skip_with t.0 n) (prefix_taken (K.Name W.Skip) refl)
      (λ t. prefix_bind number_or_one_from (λ n. skip_with t n) (prefix_number_or_one (λ w h. (ends w h).1.1)) (λ n. prefix_marked (Some (record { number = n; place = place_of t })) (noted (is_times n) (place_of t))) (λ w h. h))
      (λ w h. tt)))
      (prefix_ok None) (λ w h. (ends w h).1.0)

  prefix_late : (d : Direction) (filed : Bool) → Prefixes F F (late_file_from d filed)
  unfolding late_file_from
  prefix_late d true = prefix_ok true
  prefix_late d false = prefix_file d

  both_false : (a b : Bool) → a ≡ false → b ≡ false → a || b ≡ false
  both_false a b e i = ap (λ u. u || b) e ∙ i

  prefix_options_end : (k : Option T.Skip) → Prefixes F F (λ c. options_end k c)
  prefix_options_end k =
      prefix_test (λ ts. starts (K.Name W.File) ts || starts (K.Name W.Skip) ts) (λ c. Err Stuck) (λ c. Ok (k, c)) refl (λ t ts more. refl) (steady_err (λ c. Stuck) (λ c more. refl) (λ c o. o)) (prefix_ok k) (λ w h. both_false (starts (K.Name W.File) w) (starts (K.Name W.Skip) w) (ends w h).0 (ends w h).1.0)

  prefix_options : (d : Direction) → Prefixes F F (options_from d)
  unfolding options_from
  prefix_options d =
      prefix_bind (file_from d) (λ f. skip_from f.1 >>= λ k. late_file_from d f.0 k.1 >>= λ g. options_end k.0 g.1) (prefix_file d)
      (λ f. prefix_bind skip_from (λ k. late_file_from d f k.1 >>= λ g. options_end k.0 g.1) prefix_skip
      (λ k. prefix_bind (late_file_from d f) (λ g. options_end k g.1) (prefix_late d f) (λ g. prefix_options_end k) (λ w h. h))
      (λ w h. h))
      (λ w h. h)

-- ---- the whole

-- what it begins with
abbrev pub Begins : List Token → Type 0
Begins w = NoOption w × (is_left_out_kind (next_kind w) ≡ false)

-- what may stand behind
abbrev pub Ends : List Token → Type 0
Ends w = Begins w × (StartsNot (K.Name W.Edit) w × Fresh w)

pub semicolon_ends : (w : List Token) → Next (K.Symbol S.Semicolon) w → Ends w
semicolon_ends w n =
    let k = K.Symbol S.Semicolon in
    let no_open = next_not (K.Symbol S.OpenParenthesis) k w refl n in
    (((next_not (K.Name W.File) k w refl n, (next_not (K.Name W.Skip) k w refl n, no_open)), ap is_left_out_kind n), (next_not (K.Name W.Edit) k w refl n, (no_open, ap starts_number n)))

-- ---- pairs

module _ (s : List ℕ) (d : Direction) where
  prefix_by_formats : (es : T.Exprs) (t : Token) → Prefixes Fresh Fresh (λ c. by_formats d es (t, c))
  prefix_by_formats es t =
      prefix_bind (formats_from d) (λ fs. Ok (record { items = es; formats = fs.0.0; place = place_of t }, checked fs.0.1 (place_of t) fs.1)) (prefix_formats d) (λ fs. prefix_marked (record { items = es; formats = fs.0; place = place_of t }) (noted fs.1 (place_of t))) (λ w h. h)

  prefix_pair : Prefixes (Next (K.Symbol S.OpenParenthesis)) Fresh (pair_from s d)
  unfolding pair_from
  prefix_pair =
      prefix_bind (enclosed_from (exprs_from s)) (λ es. taken (K.Symbol S.OpenParenthesis) es.1 >>= λ t. by_formats d es.0 t) (prefix_enclosed (exprs_from s) (prefix_exprs s) (λ w h. next_allows stops_exprs (K.Symbol S.CloseParenthesis) w refl h))
      (λ es. prefix_bind (taken (K.Symbol S.OpenParenthesis)) (λ t. by_formats d es t) (prefix_symbol S.OpenParenthesis) (λ t. prefix_by_formats es t) (λ w h. tt))
      (λ w h. tt)

  pair_less : (c : Cursor) (p : T.EditPair × Cursor) → pair_from s d c ≡ Ok p → length p.1.tokens < length c.tokens
  pair_less c p e = (post_is (pair_post s d c) e).shorter

  -- a pair, and those behind it
  abbrev with_others : (Cursor → Read (List T.EditPair)) → T.EditPair × Cursor → Read (List T.EditPair)
  with_others rest p = rest p.1 >>= λ ps. Ok (p.0 ∷ ps.0, ps.1)

  others_same : (rest rest' : Cursor → Read (List T.EditPair)) (p : T.EditPair × Cursor) → rest p.1 ≡ rest' p.1 → with_others rest p ≡ with_others rest' p
  others_same rest rest' p e = ap (λ r. r >>= λ ps. Ok (p.0 ∷ ps.0, ps.1)) e

  further_same : (n n' : ℕ) (c : Cursor) → length c.tokens < n → length c.tokens < n' → further_pairs n s d c ≡ further_pairs n' s d c
  unfolding further_pairs
  further_same zero n' c l l' = absurd (omega (arith, l))
  further_same (suc n) zero c l l' = absurd (omega (arith, l'))
  further_same (suc n) (suc n') c l l' =
      ap (λ r. if starts (K.Symbol S.OpenParenthesis) c.tokens then r else Ok ([], c)) (bind_same (pair_from s d c) (with_others (further_pairs n s d)) (with_others (further_pairs n' s d)) (λ p e. others_same (further_pairs n s d) (further_pairs n' s d) p (further_same n n' p.1 (omega (arith, l, pair_less c p e)) (omega (arith, l', pair_less c p e)))))

  abbrev whole : Cursor → Read (List T.EditPair)
  whole c = further_pairs (suc (length c.tokens)) s d c

  abbrev some_pairs : Cursor → Read (List T.EditPair)
  some_pairs c = pair_from s d c >>= λ p. with_others whole p

  unrolled : (c : Cursor) → whole c ≡ (if starts (K.Symbol S.OpenParenthesis) c.tokens then some_pairs c else Ok ([], c))
  unfolding further_pairs
  unrolled c =
      ap (λ r. if starts (K.Symbol S.OpenParenthesis) c.tokens then r else Ok ([], c)) (bind_same (pair_from s d c) (with_others (further_pairs (length c.tokens) s d)) (with_others whole) (λ p e. others_same (further_pairs (length c.tokens) s d) whole p (further_same (length c.tokens) (suc (length p.1.tokens)) p.1 (pair_less c p e) (omega arith))))

  pairs_are : (c : Cursor) → pairs_from s d c ≡ some_pairs c
  unfolding pairs_from
  pairs_are c =
      bind_same (pair_from s d c) (with_others (further_pairs (suc (length c.tokens)) s d)) (with_others whole) (λ p e. others_same (further_pairs (suc (length c.tokens)) s d) whole p (further_same (suc (length c.tokens)) (suc (length p.1.tokens)) p.1 (omega (arith, pair_less c p e)) (omega arith)))

  whole_none : (i : ⊤) (m : Marks) → At anything Fresh Fresh whole (at [] m)
  whole_none i m =
      at_as (λ c. if starts (K.Symbol S.OpenParenthesis) c.tokens then some_pairs c else Ok ([], c)) whole (at [] m) (unrolled (at [] m)) (λ more. unrolled (at more m)) (at_end_test (starts (K.Symbol S.OpenParenthesis)) some_pairs (λ c. Ok ([], c)) m refl (λ w h. h.0) (at_ok [] (at [] m)))

  some_at : (c : Cursor) → ((b : Cursor) → length b.tokens < length c.tokens → At anything Fresh Fresh whole b) → At anything (Next (K.Symbol S.OpenParenthesis)) Fresh some_pairs c
  some_at c others =
      at_bind (pair_from s d) (λ p. with_others whole p) c (at_one prefix_pair c) (λ p e. at_map whole (λ ps. p.0 ∷ ps) p.1 (others p.1 (pair_less c p e))) (λ p m. at_map whole (λ ps. p ∷ ps) (at [] m) (whole_none tt m)) (λ w h. h)

  whole_step : (i : ⊤) (t : Token) (ts : List Token) (m : Marks) → ((j : ⊤) (c : Cursor) → length c.tokens ≤ length ts → At anything Fresh Fresh whole c) → At anything Fresh Fresh whole (at (t ∷ ts) m)
  whole_step i t ts m others =
      at_as (λ c. if starts (K.Symbol S.OpenParenthesis) c.tokens then some_pairs c else Ok ([], c)) whole (at (t ∷ ts) m) (unrolled (at (t ∷ ts) m)) (λ more. unrolled (at (t ∷ (ts ++ more)) m)) (at_test (λ c. starts (K.Symbol S.OpenParenthesis) c.tokens) some_pairs (λ c. Ok ([], c)) (at (t ∷ ts) m) (λ more. refl) (λ e. at_some some_pairs t ts m (some_at (at (t ∷ ts) m) (λ b l. others tt b (omega (arith, l))))) (λ e. at_ok [] (at (t ∷ ts) m)))

  whole_at : (c : Cursor) → At anything Fresh Fresh whole c
  whole_at c = loop_at (λ i. whole) whole_none whole_step tt c

  prefix_some : Prefixes (Next (K.Symbol S.OpenParenthesis)) Fresh some_pairs
  prefix_some = at_all (λ c. some_at c (λ b l. whole_at b))

  pub prefix_pairs : Prefixes (Next (K.Symbol S.OpenParenthesis)) Fresh (pairs_from s d)
  prefix_pairs =
      at_all (λ c. at_as some_pairs (pairs_from s d) c (pairs_are c) (λ more. pairs_are (longer c more)) (at_one prefix_some c))

  abbrev transfer : Option T.Skip → List T.EditPair → Transfer
  transfer k ps = record { skip = k; pairs = ps }

  prefix_edit : Prefixes Ends Ends (edit_from s d)
  unfolding edit_from
  prefix_edit =
      prefix_when (K.Name W.Edit) (λ c. taken (K.Name W.Edit) c >>= λ t. pairs_from s d t.1) (λ c. Ok ([], c)) (steady (prefix_bind {F = Ends} (taken (K.Name W.Edit)) (λ t. pairs_from s d t.1) (prefix_taken (K.Name W.Edit) refl) (λ t. prefix_as {F' = Ends} (λ w h. h.1.1) (λ w h. h) prefix_pairs) (λ w h. tt))) (prefix_ok []) (λ w h. h.1.0)

  -- without SKIP, EDIT has to stand
  abbrev edit_alone : Cursor → Read Transfer
  edit_alone c = taken (K.Name W.Edit) c >>= λ t. pairs_from s d t.1 >>= λ ps. Ok (transfer None ps.0, ps.1)

  prefix_alone : Prefixes (Next (K.Name W.Edit)) Ends edit_alone
  prefix_alone =
      prefix_bind (taken (K.Name W.Edit)) (λ t. pairs_from s d t.1 >>= λ ps. Ok (transfer None ps.0, ps.1)) (prefix_taken (K.Name W.Edit) refl) (λ t. prefix_bind (pairs_from s d) (λ ps. Ok (transfer None ps.0, ps.1)) prefix_pairs (λ ps. prefix_ok (transfer None ps)) (λ w h. h.1.1)) (λ w h. tt)

  abbrev moved_by : Option T.Skip → Cursor → Read Transfer
  moved_by k c = edit_from s d c >>= λ ps. moved k ps.0 ps.1

  -- what stands behind pairs, in two ways
  abbrev moved_alone : Read (List T.EditPair) → Read Transfer
  moved_alone r = r >>= λ ps. moved None ps.0 ps.1

  abbrev alone : Read (List T.EditPair) → Read Transfer
  alone r = r >>= λ ps. Ok (transfer None ps.0, ps.1)

  some_behind : (x : T.EditPair) (r : Read (List T.EditPair)) → moved_alone (with_others (λ c. r) (x, at [] no_marks)) ≡ alone (with_others (λ c. r) (x, at [] no_marks))
  some_behind x (Ok ps) = refl
  some_behind x (Err e) = refl

  moved_some : (p : Read T.EditPair) (rest : Cursor → Read (List T.EditPair)) → moved_alone (p >>= with_others rest) ≡ alone (p >>= with_others rest)
  moved_some (Ok x) rest = some_behind x.0 (rest x.1)
  moved_some (Err e) rest = refl

  pairs_moved : (c : Cursor) → moved_alone (pairs_from s d c) ≡ alone (pairs_from s d c)
  unfolding pairs_from
  pairs_moved c = moved_some (pair_from s d c) (further_pairs (suc (length c.tokens)) s d)

  abbrev by_test : Cursor → Bool → Read Token → Read Transfer
  by_test c b r = (if b then (r >>= λ t. pairs_from s d t.1) else Ok ([], c)) >>= λ ps. moved None ps.0 ps.1

  alone_is : (ts : List Token) (m : Marks) → moved_by None (at ts m) ≡ edit_alone (at ts m)
  unfolding edit_from
  alone_is [] m = ap (λ r. r >>= λ t. pairs_from s d t.1 >>= λ ps. Ok (transfer None ps.0, ps.1)) (sym (taken_none (K.Name W.Edit) m))
  alone_is (t ∷ ts) m = by_kind (is_terminal (K.Name W.Edit) t.kind) refl
    where
      by_kind : (b : Bool) → is_terminal (K.Name W.Edit) t.kind ≡ b → by_test (at (t ∷ ts) m) (is_terminal (K.Name W.Edit) t.kind) (taken (K.Name W.Edit) (at (t ∷ ts) m)) ≡ edit_alone (at (t ∷ ts) m)
      by_kind true e =
          let r = taken_first (K.Name W.Edit) t ts m e in
          ap (λ b. by_test (at (t ∷ ts) m) b (taken (K.Name W.Edit) (at (t ∷ ts) m))) e ∙ ap (by_test (at (t ∷ ts) m) true) r ∙ pairs_moved (at ts m) ∙ ap (λ r. r >>= λ t. pairs_from s d t.1 >>= λ ps. Ok (transfer None ps.0, ps.1)) (sym r)
      by_kind false e =
          let r = taken_other (K.Name W.Edit) t ts m e in
          ap (λ b. by_test (at (t ∷ ts) m) b (taken (K.Name W.Edit) (at (t ∷ ts) m))) e ∙ ap (λ r. r >>= λ t. pairs_from s d t.1 >>= λ ps. Ok (transfer None ps.0, ps.1)) (sym r)

  alone_begins : (w : List Token) → Next (K.Name W.Edit) w → Begins w
  alone_begins w n = ((next_not (K.Name W.File) (K.Name W.Edit) w refl n, (next_not (K.Name W.Skip) (K.Name W.Edit) w refl n, next_not (K.Symbol S.OpenParenthesis) (K.Name W.Edit) w refl n)), ap is_left_out_kind n)

  prefix_moved : (k : Option T.Skip) → Prefixes Begins Ends (moved_by k)
  prefix_moved (Some k) =
      prefix_as (λ w h. h) (λ w h. h.0) (prefix_bind (edit_from s d) (λ ps. moved (Some k) ps.0 ps.1) prefix_edit (λ ps. prefix_ok (transfer (Some k) ps)) (λ w h. h))
  prefix_moved None =
      at_all (λ c. at_as edit_alone (moved_by None) c (alone_is c.tokens c.marks) (λ more. alone_is (c.tokens ++ more) c.marks) (at_one (prefix_as (λ w h. h) alone_begins prefix_alone) c))

  pub prefix_transfer : Prefixes Begins Ends (transfer_from s d)
  unfolding transfer_from
  prefix_transfer =
      prefix_test (λ ts. is_left_out_kind (next_kind ts)) (λ c. Err (LeavesOut c)) (λ c. options_from d c >>= λ k. moved_by k.0 k.1) refl (λ t ts more. refl) (steady_err (λ c. LeavesOut c) (λ c more. tt) (λ c o. o)) (prefix_bind (options_from d) (λ k. moved_by k.0 k.1) (prefix_options (λ w h. h.0) d) prefix_moved (λ w h. h)) (λ w h. h.1)
