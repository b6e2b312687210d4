-- The value of a text, against what spells it.
use Rattle.std.specs.Prelude.{if◌then◌else◌, ◌==◌, ◌&&◌, not}
use Rattle.std.specs.List.{list_all}
use Rattle.std.proofs.Common.{◌≡◌, ℕ, List, [], ◌∷◌, ◌++◌, Option, Some, None, Bool, true, false, refl, sym, ap, ◌∙◌, subst, eqb-true}
use Rattle.pli_language.specs.Tokens.{quote, doubled, is_line_end, IsTextOf}
use Rattle.pli_phrase.specs.Tokens.{before, closed_text, text_of}

abbrev pub on_one_line : List ℕ → Bool
on_one_line v = list_all (λ b. not (is_line_end b)) v

-- ---- a text is read

front : (b : ℕ) (xs v : List ℕ) → b == quote ≡ false → is_line_end b ≡ false → closed_text xs ≡ Some v → closed_text (b ∷ xs) ≡ Some (b ∷ v)
unfolding closed_text
front b [] v q l e = absurd (cc e)
front b (d ∷ xs) v q l e =
    let f : Bool → Bool → Option (List ℕ) = λ t u. if t then (if d == quote then before quote (closed_text xs) else None) else (if u then None else before b (closed_text (d ∷ xs))) in
    ap (λ t. f t (is_line_end b)) q ∙ ap (f false) l ∙ ap (before b) e

front_quote : (xs v : List ℕ) → closed_text xs ≡ Some v → closed_text (quote ∷ quote ∷ xs) ≡ Some (quote ∷ v)
unfolding closed_text
front_quote xs v e = ap (before quote) e

last_quote : closed_text (quote ∷ []) ≡ Some []
unfolding closed_text
last_quote = refl

line_first : (x y : Bool) → (not x && y) ≡ true → x ≡ false
line_first false y e = refl
line_first true y e = absurd (cc e)

line_rest : (x y : Bool) → (not x && y) ≡ true → y ≡ true
line_rest false y e = e
line_rest true y e = absurd (cc e)

doubled_step : (b : ℕ) (v : List ℕ) (t : Bool) → b == quote ≡ t → is_line_end b ≡ false → closed_text (doubled v ++ quote ∷ []) ≡ Some v → closed_text ((if t then quote ∷ quote ∷ doubled v else b ∷ doubled v) ++ quote ∷ []) ≡ Some (b ∷ v)
doubled_step b v true e l h = front_quote (doubled v ++ quote ∷ []) v h ∙ ap (λ n. Some (n ∷ v)) (sym (eqb-true b quote e))
doubled_step b v false e l h = front b (doubled v ++ quote ∷ []) v e l h

closed_complete : (v : List ℕ) → on_one_line v ≡ true → closed_text (doubled v ++ quote ∷ []) ≡ Some v
closed_complete [] l = last_quote
closed_complete (b ∷ v) l =
    doubled_step b v (b == quote) refl (line_first (is_line_end b) (on_one_line v) l) (closed_complete v (line_rest (is_line_end b) (on_one_line v) l))

pub text_spelled : (v w : List ℕ) → IsTextOf v w → text_of w ≡ Some v
text_spelled v w h = ap text_of h.spelled ∙ closed_complete v h.on_one_line

-- ---- what is read is a text

record Closed (w v : List ℕ) : Type 0 where
  is : w ≡ doubled v ++ quote ∷ []
  line : on_one_line v ≡ true

record Behind (b : ℕ) (r : Option (List ℕ)) (v : List ℕ) : Type 0 where
  rest : List ℕ
  read : r ≡ Some rest
  is : v ≡ b ∷ rest

before_some : (b : ℕ) (r : Option (List ℕ)) (v : List ℕ) → before b r ≡ Some v → Behind b r v
before_some b None v e = absurd (cc e)
before_some b (Some w) v e = let k : b ∷ w ≡ v = cc e in record { rest = w; read = refl; is = sym k }

closed_last : (b : ℕ) (v : List ℕ) (t : Bool) → b == quote ≡ t → (if t then Some [] else None) ≡ Some v → Closed (b ∷ []) v
closed_last b v true e h =
    let k : [] ≡ v = cc h in
    let q = eqb-true b quote e in
    subst (λ u. Closed (b ∷ []) u) k (record { is = ap (λ n. n ∷ []) q; line = refl })
closed_last b v false e h = absurd (cc h)

closed_quote : (d : ℕ) (rest v : List ℕ) (t : Bool) → d == quote ≡ t → ((w : List ℕ) → closed_text rest ≡ Some w → Closed rest w) → (if t then before quote (closed_text rest) else None) ≡ Some v → Closed (quote ∷ d ∷ rest) v
closed_quote d rest v true e more h =
    let b = before_some quote (closed_text rest) v h in
    let c = more b.rest b.read in
    let q = eqb-true d quote e in
    subst (λ u. Closed (quote ∷ d ∷ rest) u) (sym b.is) (record { is = ap (λ n. quote ∷ n ∷ rest) q ∙ ap (λ u. quote ∷ quote ∷ u) c.is; line = c.line })
closed_quote d rest v false e more h = absurd (cc h)

closed_byte : (b : ℕ) (rest v : List ℕ) (l : Bool) → b == quote ≡ false → is_line_end b ≡ l → ((w : List ℕ) → closed_text rest ≡ Some w → Closed rest w) → (if l then None else before b (closed_text rest)) ≡ Some v → Closed (b ∷ rest) v
closed_byte b rest v true q e more h = absurd (cc h)
closed_byte b rest v false q e more h =
    let f = before_some b (closed_text rest) v h in
    let c = more f.rest f.read in
    let d : Bool → List ℕ = λ t. (if t then quote ∷ quote ∷ doubled f.rest else b ∷ doubled f.rest) ++ quote ∷ [] in
    subst (λ u. Closed (b ∷ rest) u) (sym f.is) (record { is = ap (λ u. b ∷ u) c.is ∙ sym (ap d q); line = ap (λ u. not u && on_one_line f.rest) e ∙ c.line })

closed_either : (b d : ℕ) (rest v : List ℕ) (t : Bool) → b == quote ≡ t → ((w : List ℕ) → closed_text rest ≡ Some w → Closed rest w) → ((w : List ℕ) → closed_text (d ∷ rest) ≡ Some w → Closed (d ∷ rest) w) → (if t then (if d == quote then before quote (closed_text rest) else None) else (if is_line_end b then None else before b (closed_text (d ∷ rest)))) ≡ Some v → Closed (b ∷ d ∷ rest) v
closed_either b d rest v true e more next h =
    let c = closed_quote d rest v (d == quote) refl more h in
    subst (λ n. Closed (n ∷ d ∷ rest) v) (sym (eqb-true b quote e)) c
closed_either b d rest v false e more next h = closed_byte b (d ∷ rest) v (is_line_end b) e refl next h

closed_sound : (w v : List ℕ) → closed_text w ≡ Some v → Closed w v
unfolding closed_text
closed_sound [] v e = absurd (cc e)
closed_sound (b ∷ []) v e = closed_last b v (b == quote) refl e
closed_sound (b ∷ d ∷ rest) v e =
    closed_either b d rest v (b == quote) refl (λ u. closed_sound rest u) (λ u. closed_sound (d ∷ rest) u) e

opened_text : (b : ℕ) (rest v : List ℕ) (t : Bool) → b == quote ≡ t → (if t then closed_text rest else None) ≡ Some v → IsTextOf v (b ∷ rest)
opened_text b rest v true e h =
    let c = closed_sound rest v h in
    record { spelled = ap (λ n. n ∷ rest) (eqb-true b quote e) ∙ ap (λ u. quote ∷ u) c.is; on_one_line = c.line }
opened_text b rest v false e h = absurd (cc h)

pub text_sound : (w v : List ℕ) → text_of w ≡ Some v → IsTextOf v w
text_sound [] v e = absurd (cc e)
text_sound (b ∷ rest) v e = opened_text b rest v (b == quote) refl e
