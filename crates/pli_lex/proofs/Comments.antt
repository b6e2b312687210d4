-- Comments, found by a pass over their bytes.
use Rattle.std.proofs.Common.{◌≡◌, ℕ, suc, ◌+◌, ◌<◌, List, [], ◌∷◌, ◌++◌, length, get_or, take, drop, Bool, true, false, cond, refl, sym, ◌∙◌, ap, subst, eqb, Some, None, arith, append_assoc, length-append}
use Rattle.std.specs.Prelude.{◌&&◌, ◌||◌}
use Rattle.std.proofs.lemmas.Bool.{eqb-true, and_parts, and_from, or_left, or_right, or_parts, both_ways}
use Rattle.std.proofs.lemmas.List.{take_at, append-nil, append_cancel_left}
use Rattle.pli_language.specs.declared.fault.SourceKind.TheVariants.{UnclosedComment}
use Rattle.pli_language.specs.Tokens.{is_blank, has_close, opens_comment, IsComment, IsSeparation, nothing, blank, comment, unclosed_comment}
use Rattle.pli_lex.specs.Scanning.{comment_end}
use Rattle.pli_lex.specs.Pieces.{IsSeparatorAt, IsRefusedAt}

abbrev with_star : Bool → List ℕ → List ℕ
with_star true bytes = 42 ∷ bytes
with_star false bytes = bytes

-- the bytes from place i on end a comment at place e, and not before
record EndsAt (bytes : List ℕ) (i e : ℕ) : Type 0 where
  inside : List ℕ
  rest : List ℕ
  spelled : bytes ≡ inside ++ 42 ∷ 47 ∷ rest
  first : has_close (inside ++ 42 ∷ []) ≡ false
  size : e ≡ i + (length inside + 2)

no_star : (b : ℕ) (l : List ℕ) → eqb b 42 ≡ false → has_close (b ∷ l) ≡ has_close l
no_star b [] q = refl
no_star b (c ∷ l) q = ap (λ t. (t && eqb c 47) || has_close (c ∷ l)) q

no_slash : (c : ℕ) (l : List ℕ) → eqb c 47 ≡ false → has_close (42 ∷ c ∷ l) ≡ has_close (c ∷ l)
no_slash c l q = ap (λ t. t || has_close (c ∷ l)) q

ends_after : (b : ℕ) (r : List ℕ) (i e : ℕ) (t : Bool) → eqb b 42 ≡ t → EndsAt (with_star t r) (cond t i (i + 1)) e → EndsAt (b ∷ r) i e
ends_after b r i e true q h = subst (λ c. EndsAt (c ∷ r) i e) (sym (eqb-true b 42 q)) h
ends_after b r i e false q h = record {
  inside = b ∷ h.inside;
  rest = h.rest;
  spelled = ap (λ l. b ∷ l) h.spelled;
  first = no_star b (h.inside ++ 42 ∷ []) q ∙ h.first;
  size = omega (arith, h.size);
}

ends_star_by : (b : ℕ) (r : List ℕ) (inside rest : List ℕ) → eqb b 47 ≡ false → b ∷ r ≡ inside ++ 42 ∷ 47 ∷ rest → has_close (inside ++ 42 ∷ []) ≡ false → has_close (42 ∷ (inside ++ 42 ∷ [])) ≡ false
ends_star_by b r [] rest q e first = refl
ends_star_by b r (d ∷ inside) rest q e first =
    let is : b ≡ d = cc in
    no_slash d (inside ++ 42 ∷ []) (sym (ap (λ c. eqb c 47) is) ∙ q) ∙ first

ends_star : (b : ℕ) (r : List ℕ) (i j e : ℕ) → i ≡ j + 1 → eqb b 47 ≡ false → EndsAt (b ∷ r) i e → EndsAt (42 ∷ b ∷ r) j e
ends_star b r i j e at q h = record {
  inside = 42 ∷ h.inside;
  rest = h.rest;
  spelled = ap (λ l. 42 ∷ l) h.spelled;
  first = ends_star_by b r h.inside h.rest q h.spelled h.first;
  size = omega (arith, h.size, at);
}

ends_first : (b : ℕ) (r : List ℕ) (i j e : ℕ) (t : Bool) → eqb b 47 ≡ t → i ≡ j + 1 → cond t (Some (i + 1)) (comment_end (eqb b 42) (i + 1) r) ≡ Some e → (comment_end (eqb b 42) (i + 1) r ≡ Some e → EndsAt (b ∷ r) i e) → EndsAt (42 ∷ b ∷ r) j e
ends_first b r i j e true q at found next =
    let is : i + 1 ≡ e = cc in
    record {
      inside = [];
      rest = r;
      spelled = ap (λ c. 42 ∷ c ∷ r) (eqb-true b 47 q);
      first = refl;
      size = omega arith;
    }
ends_first b r i j e false q at found next = ends_star b r i j e at q (next found)

place_of : (t : Bool) (i : ℕ) → i + 1 ≡ cond t (cond t i (i + 1) + 1) (cond t i (i + 1))
place_of true i = refl
place_of false i = refl

comment_ends : (star : Bool) (i j : ℕ) (r : List ℕ) (e : ℕ) → i ≡ cond star (j + 1) j → comment_end star i r ≡ Some e → EndsAt (with_star star r) j e
comment_ends star i j [] e at found = absurd (cc)
comment_ends true i j (b ∷ r) e at found = ends_first b r i j e (eqb b 47) refl at found (λ h. ends_after b r i e (eqb b 42) refl (comment_ends (eqb b 42) (i + 1) (cond (eqb b 42) i (i + 1)) r e (place_of (eqb b 42) i) h))
comment_ends false i j (b ∷ r) e at found = subst (λ k. EndsAt (b ∷ r) k e) at (ends_after b r i e (eqb b 42) refl (comment_ends (eqb b 42) (i + 1) (cond (eqb b 42) i (i + 1)) r e (place_of (eqb b 42) i) found))

-- ---- none

close_after : (b : ℕ) (r : List ℕ) (t : Bool) → eqb b 42 ≡ t → has_close (with_star t r) ≡ false → has_close (b ∷ r) ≡ false
close_after b r true q h = ap (λ c. has_close (c ∷ r)) (eqb-true b 42 q) ∙ h
close_after b r false q h = no_star b r q ∙ h

close_first : (b i : ℕ) (r : List ℕ) (t : Bool) → eqb b 47 ≡ t → cond t (Some (i + 1)) (comment_end (eqb b 42) (i + 1) r) ≡ None → (comment_end (eqb b 42) (i + 1) r ≡ None → has_close (b ∷ r) ≡ false) → has_close (42 ∷ b ∷ r) ≡ false
close_first b i r true q none next = absurd (cc)
close_first b i r false q none next = no_slash b r q ∙ next none

no_end : (star : Bool) (i : ℕ) (r : List ℕ) → comment_end star i r ≡ None → has_close (with_star star r) ≡ false
no_end true i [] none = refl
no_end false i [] none = refl
no_end true i (b ∷ r) none = close_first b i r (eqb b 47) refl none (λ h. close_after b r (eqb b 42) refl (no_end (eqb b 42) (i + 1) r h))
no_end false i (b ∷ r) none = close_after b r (eqb b 42) refl (no_end (eqb b 42) (i + 1) r none)

-- ---- what stands at the front

comment_spelled : (b c : ℕ) (r : List ℕ) (e : ℕ) → (eqb b 47 && eqb c 42) ≡ true → EndsAt r 0 e → IsSeparatorAt (b ∷ c ∷ r) (2 + e)
comment_spelled b c r e opens h =
    let parts = and_parts (eqb b 47) (eqb c 42) opens in
    let regrouped : r ≡ (h.inside ++ 42 ∷ 47 ∷ []) ++ h.rest = h.spelled ∙ sym (append_assoc h.inside (42 ∷ 47 ∷ []) h.rest) in
    let size : length (h.inside ++ 42 ∷ 47 ∷ []) ≡ e = simp length-append (omega (arith, h.size)) in
    let front : take e r ≡ h.inside ++ 42 ∷ 47 ∷ [] = ap (take e) regrouped ∙ take_at (h.inside ++ 42 ∷ 47 ∷ []) h.rest e size in
    let long : length r ≡ length (h.inside ++ 42 ∷ 47 ∷ []) + length h.rest = ap length regrouped ∙ length-append (h.inside ++ 42 ∷ 47 ∷ []) h.rest in
    let two : 2 + e ≡ suc (suc e) = omega arith in
    let is : take (2 + e) (b ∷ c ∷ r) ≡ 47 ∷ 42 ∷ (h.inside ++ 42 ∷ 47 ∷ []) = ap (λ n. take n (b ∷ c ∷ r)) two ∙ (λ k. eqb-true b 47 parts.0 k ∷ eqb-true c 42 parts.1 k ∷ front k) in
    let here : IsComment (47 ∷ 42 ∷ (h.inside ++ 42 ∷ 47 ∷ [])) = record { inside = h.inside; spelled = refl; first = h.first } in
    record {
      some = omega arith;
      inside = omega arith;
      separates = subst IsSeparation (append-nil (47 ∷ 42 ∷ (h.inside ++ 42 ∷ 47 ∷ [])) ∙ sym is) (comment (47 ∷ 42 ∷ (h.inside ++ 42 ∷ 47 ∷ [])) [] here nothing);
    }

pub comment_at : (s : List ℕ) (e : ℕ) → opens_comment s ≡ true → comment_end false 0 (drop 2 s) ≡ Some e → IsSeparatorAt s (2 + e)
comment_at [] e opens found = absurd (cc)
comment_at (b ∷ []) e opens found = absurd (cc)
comment_at (b ∷ c ∷ r) e opens found = comment_spelled b c r e opens (comment_ends false 0 0 r e refl found)

pub unclosed_at : (s : List ℕ) → opens_comment s ≡ true → comment_end false 0 (drop 2 s) ≡ None → IsRefusedAt s UnclosedComment
unclosed_at s opens none = record { breaks = λ read. unclosed_comment opens (no_end false 0 (drop 2 s) none) }

pub blank_at : (s : List ℕ) → 0 < length s → is_blank (get_or s 0 0) ≡ true → IsSeparatorAt s 1
blank_at [] some b = absurd (omega arith)
blank_at (c ∷ r) some b = record { some = omega arith; inside = omega arith; separates = blank c [] b nothing }

-- ---- one way to take separators

-- a comment that ends is seen
pub has_close-there : (inside rest : List ℕ) → has_close (inside ++ 42 ∷ 47 ∷ rest) ≡ true
has_close-there [] rest = refl
has_close-there (b ∷ []) rest = or_right _ _ refl
has_close-there (b ∷ c ∷ inside) rest = or_right (eqb b 42 && eqb c 47) _ (has_close-there (c ∷ inside) rest)

close_rest : (b : ℕ) (inside : List ℕ) → has_close (b ∷ (inside ++ 42 ∷ [])) ≡ false → has_close (inside ++ 42 ∷ []) ≡ false
close_rest b [] h = refl
close_rest b (c ∷ inside) h = (or_parts (eqb b 42 && eqb c 47) (has_close (c ∷ (inside ++ 42 ∷ []))) h).1

two_heads : (a b c d : ℕ) (p q : List ℕ) → a ∷ b ∷ p ≡ c ∷ d ∷ q → (a ≡ c) × (b ≡ d)
two_heads a b c d p q e = (cc, cc)

slash_is_star : ◌≡◌ {A = ℕ} 47 42 → ⊥
slash_is_star e = omega arith

both_heads : (d c : ℕ) (other : Bool) → 42 ≡ d → 47 ≡ c → ((eqb d 42 && eqb c 47) || other) ≡ true
both_heads d c other star slash = or_left _ _ (and_from _ _ (sym (ap (λ x. eqb x 42) star)) (sym (ap (λ x. eqb x 47) slash)))

ends_at_once : (p q : List ℕ) (d : ℕ) (inside : List ℕ) → 42 ∷ 47 ∷ p ≡ d ∷ (inside ++ 42 ∷ 47 ∷ q) → has_close (d ∷ (inside ++ 42 ∷ [])) ≡ false → ⊥
ends_at_once p q d [] e _ = slash_is_star (two_heads 42 47 d 42 p (47 ∷ q) e).1
ends_at_once p q d (c ∷ inside) e first =
    let heads = two_heads 42 47 d c p (inside ++ 42 ∷ 47 ∷ q) e in
    both_ways (has_close (d ∷ c ∷ (inside ++ 42 ∷ []))) first (both_heads d c (has_close (c ∷ (inside ++ 42 ∷ []))) heads.0 heads.1)

same_inside : (v w p q : List ℕ) → v ++ 42 ∷ 47 ∷ p ≡ w ++ 42 ∷ 47 ∷ q → has_close (v ++ 42 ∷ []) ≡ false → has_close (w ++ 42 ∷ []) ≡ false → v ≡ w
same_inside [] [] p q e first_v first_w = refl
same_inside [] (d ∷ w) p q e first_v first_w = absurd (ends_at_once p q d w e first_w)
same_inside (b ∷ v) [] p q e first_v first_w = absurd (ends_at_once q p b v (sym e) first_v)
same_inside (b ∷ v) (d ∷ w) p q e first_v first_w =
    let head : b ≡ d = cc in
    let tail : v ++ 42 ∷ 47 ∷ p ≡ w ++ 42 ∷ 47 ∷ q = cc in
    λ k. head k ∷ same_inside v w p q tail (close_rest b v first_v) (close_rest d w first_w) k

-- no blank and no comment stands first
pub record NoSeparator (x : List ℕ) : Type 0 where
  pub no_blank : (b : ℕ) (r : List ℕ) → x ≡ b ∷ r → is_blank b ≡ false
  pub no_comment : opens_comment x ≡ true → has_close (drop 2 x) ≡ false

-- what begins with a comment, as bytes
comment_first : (c w x : List ℕ) (h : IsComment c) → (c ++ w) ++ x ≡ 47 ∷ 42 ∷ (h.inside ++ 42 ∷ 47 ∷ (w ++ x))
comment_first c w x h =
    ap (λ l. (l ++ w) ++ x) h.spelled ∙ append_assoc (47 ∷ 42 ∷ (h.inside ++ 42 ∷ 47 ∷ [])) w x ∙ ap (λ l. 47 ∷ 42 ∷ l) (append_assoc h.inside (42 ∷ 47 ∷ []) (w ++ x))

comment_breaks : (c w x y : List ℕ) → IsComment c → NoSeparator x → x ≡ (c ++ w) ++ y → ⊥
comment_breaks c w x y h none e =
    let is = e ∙ comment_first c w y h in
    let opens : opens_comment x ≡ true = ap opens_comment is in
    both_ways (has_close (drop 2 x)) (none.no_comment opens) (ap (λ l. has_close (drop 2 l)) is ∙ has_close-there h.inside (w ++ y))

blank_breaks : (b : ℕ) (v c w x y : List ℕ) → is_blank b ≡ true → IsComment c → (b ∷ v) ++ x ≡ (c ++ w) ++ y → ⊥
blank_breaks b v c w x y is_b h e =
    let is : b ∷ (v ++ x) ≡ 47 ∷ 42 ∷ (h.inside ++ 42 ∷ 47 ∷ (w ++ y)) = e ∙ comment_first c w y h in
    let slash : b ≡ 47 = cc in
    both_ways (is_blank b) (ap is_blank slash) is_b

pub same_separation : (v w x y : List ℕ) → IsSeparation v → IsSeparation w → NoSeparator x → NoSeparator y → v ++ x ≡ w ++ y → v ≡ w
same_separation v w x y nothing nothing no_x no_y e = refl
same_separation v w x y nothing (blank b u is_b h) no_x no_y e = absurd (both_ways (is_blank b) (no_x.no_blank b (u ++ y) e) is_b)
same_separation v w x y nothing (comment c u is_c h) no_x no_y e = absurd (comment_breaks c u x y is_c no_x e)
same_separation v w x y (blank b u is_b h) nothing no_x no_y e = absurd (both_ways (is_blank b) (no_y.no_blank b (u ++ x) (sym e)) is_b)
same_separation v w x y (comment c u is_c h) nothing no_x no_y e = absurd (comment_breaks c u y x is_c no_y (sym e))
same_separation v w x y (blank b u is_b h) (blank d t is_d g) no_x no_y e =
    let head : b ≡ d = cc in
    let tail : u ++ x ≡ t ++ y = cc in
    let same = same_separation u t x y h g no_x no_y tail in
    λ k. head k ∷ same k
same_separation v w x y (blank b u is_b h) (comment d t is_d g) no_x no_y e = absurd (blank_breaks b u d t x y is_b is_d e)
same_separation v w x y (comment c u is_c h) (blank d t is_d g) no_x no_y e = absurd (blank_breaks d t c u y x is_d is_c (sym e))
same_separation v w x y (comment c u is_c h) (comment d t is_d g) no_x no_y e =
    let is : 47 ∷ 42 ∷ (is_c.inside ++ 42 ∷ 47 ∷ (u ++ x)) ≡ 47 ∷ 42 ∷ (is_d.inside ++ 42 ∷ 47 ∷ (t ++ y)) = sym (comment_first c u x is_c) ∙ e ∙ comment_first d t y is_d in
    let inner : is_c.inside ++ 42 ∷ 47 ∷ (u ++ x) ≡ is_d.inside ++ 42 ∷ 47 ∷ (t ++ y) = cc in
    let inside = same_inside is_c.inside is_d.inside (u ++ x) (t ++ y) inner is_c.first is_d.first in
    let same_comment : c ≡ d = is_c.spelled ∙ ap (λ l. 47 ∷ 42 ∷ (l ++ 42 ∷ 47 ∷ [])) inside ∙ sym is_d.spelled in
    let whole : d ++ (u ++ x) ≡ d ++ (t ++ y) = ap (λ l. l ++ (u ++ x)) (sym same_comment) ∙ sym (append_assoc c u x) ∙ e ∙ append_assoc d t y in
    let tail = append_cancel_left d (u ++ x) (t ++ y) whole in
    let same = same_separation u t x y h g no_x no_y tail in
    λ k. same_comment k ++ same k

-- separators in a row
pub separation_join : (v w : List ℕ) → IsSeparation v → IsSeparation w → IsSeparation (v ++ w)
separation_join v w nothing g = g
separation_join v w (blank b u is_b h) g = blank b (u ++ w) is_b (separation_join u w h g)
separation_join v w (comment c u is_c h) g = subst IsSeparation (sym (append_assoc c u w)) (comment c (u ++ w) is_c (separation_join u w h g))
