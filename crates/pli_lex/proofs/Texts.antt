-- The longest text at an opening quote.
use Rattle.std.proofs.Common.{◌≡◌, ℕ, ◌+◌, ◌≤◌, ◌⊎◌, inl, inr, List, [], ◌∷◌, ◌++◌, length, Bool, true, false, cond, refl, sym, ◌∙◌, ap, subst, eqb, Option, Some, None, arith, length-append}
use Rattle.std.specs.Prelude.{not, if◌then◌else◌, ◌==◌}
use Rattle.std.specs.List.{list_all}
use Rattle.std.proofs.lemmas.Bool.{eqb-true, eqb-false, cond-true, cond-false, and_parts, and_from, not-true, not_from_false}
use Rattle.pli_language.specs.Tokens.{is_line_end, quote, doubled}
use Rattle.pli_lex.specs.Scanning.{text_end}

abbrev pub on_line : ℕ → Bool
on_line b = not (is_line_end b)

abbrev byte_before : ℕ → Option (List ℕ) → Option (List ℕ)
byte_before b None = None
byte_before b (Some v) = Some (b ∷ v)

abbrev quote_before : Option (List ℕ) → List ℕ
quote_before None = []
quote_before (Some v) = quote ∷ v

-- The bytes of the longest text behind an opening quote. Behind a further quote, which can close it, there is one.
abbrev pub text_value : Bool → List ℕ → Option (List ℕ)
text_value true [] = Some []
text_value false [] = None
text_value true (b ∷ rest) = Some (if b == quote then quote_before (text_value false rest) else [])
text_value false (b ∷ rest) = if b == quote then text_value true rest else (if is_line_end b then None else byte_before b (text_value false rest))

abbrev pub with_quote : Bool → List ℕ → List ℕ
with_quote true bytes = quote ∷ bytes
with_quote false bytes = bytes

-- these bytes close after the text v
pub record Closes (bytes v : List ℕ) : Type 0 where
  pub rest : List ℕ
  pub spelled : bytes ≡ doubled v ++ quote ∷ rest
  pub one_line : list_all on_line v ≡ true

doubled-quote : (b : ℕ) (v : List ℕ) → eqb b quote ≡ true → doubled (b ∷ v) ≡ quote ∷ quote ∷ doubled v
doubled-quote b v q = cond-true _ _ _ q

doubled-other : (b : ℕ) (v : List ℕ) → eqb b quote ≡ false → doubled (b ∷ v) ≡ b ∷ doubled v
doubled-other b v q = cond-false _ _ _ q

value_other : (b : ℕ) (r v : List ℕ) (o : Option (List ℕ)) → eqb b quote ≡ false → is_line_end b ≡ false → byte_before b o ≡ Some v → ((u : List ℕ) → o ≡ Some u → Closes r u) → Closes (b ∷ r) v
value_other b r v None q line e before = absurd (cc)
value_other b r v (Some u) q line e before =
    let c = before u refl in
    let is : b ∷ u ≡ v = cc in
    subst (Closes (b ∷ r)) is (record {
      rest = c.rest;
      spelled = ap (λ l. b ∷ l) c.spelled ∙ ap (λ l. l ++ quote ∷ c.rest) (sym (doubled-other b u q));
      one_line = and_from _ _ (not_from_false _ line) c.one_line;
    })

value_byte : (b : ℕ) (r v : List ℕ) (line : Bool) → is_line_end b ≡ line → eqb b quote ≡ false → cond line None (byte_before b (text_value false r)) ≡ Some v → ((u : List ℕ) → text_value false r ≡ Some u → Closes r u) → Closes (b ∷ r) v
value_byte b r v true line q e before = absurd (cc)
value_byte b r v false line q e before = value_other b r v (text_value false r) q line e before

value_first : (b : ℕ) (r v : List ℕ) (t : Bool) → eqb b quote ≡ t → cond t (text_value true r) (cond (is_line_end b) None (byte_before b (text_value false r))) ≡ Some v → ((u : List ℕ) → text_value false r ≡ Some u → Closes r u) → ((u : List ℕ) → text_value true r ≡ Some u → Closes (quote ∷ r) u) → Closes (b ∷ r) v
value_first b r v true q e before after =
    let c = after v e in
    record { rest = c.rest; spelled = ap (λ x. x ∷ r) (eqb-true b quote q) ∙ c.spelled; one_line = c.one_line }
value_first b r v false q e before after = value_byte b r v (is_line_end b) refl q e before

closes_at_once : (r : List ℕ) → Closes (quote ∷ r) []
closes_at_once r = record { rest = r; spelled = refl; one_line = refl }

value_doubled : (b : ℕ) (r : List ℕ) (o : Option (List ℕ)) → b ≡ quote → ((u : List ℕ) → o ≡ Some u → Closes r u) → Closes (quote ∷ b ∷ r) (quote_before o)
value_doubled b r None q before = closes_at_once (b ∷ r)
value_doubled b r (Some u) q before =
    let c = before u refl in
    record {
      rest = c.rest;
      spelled = λ k. quote ∷ q k ∷ c.spelled k;
      one_line = c.one_line;
    }

value_after : (b : ℕ) (r : List ℕ) (t : Bool) → eqb b quote ≡ t → ((u : List ℕ) → text_value false r ≡ Some u → Closes r u) → Closes (quote ∷ b ∷ r) (cond t (quote_before (text_value false r)) [])
value_after b r true q before = value_doubled b r (text_value false r) (eqb-true b quote q) before
value_after b r false q before = closes_at_once (b ∷ r)

pub text_value-closes : (f : Bool) (r v : List ℕ) → text_value f r ≡ Some v → Closes (with_quote f r) v
text_value-closes true [] v e =
    let is : [] ≡ v = cc in
    subst (Closes (quote ∷ [])) is (closes_at_once [])
text_value-closes false [] v e = absurd (cc)
text_value-closes true (b ∷ r) v e =
    let is : cond (eqb b quote) (quote_before (text_value false r)) [] ≡ v = cc in
    subst (Closes (quote ∷ b ∷ r)) is (value_after b r (eqb b quote) refl (λ u h. text_value-closes false r u h))
text_value-closes false (b ∷ r) v e = value_first b r v (eqb b quote) refl e (λ u h. text_value-closes false r u h) (λ u h. text_value-closes true r u h)

-- a text that is found with at least so many bytes, quotes doubled
pub record Reaches (f : Bool) (r : List ℕ) (n : ℕ) : Type 0 where
  pub value : List ℕ
  pub found : text_value f r ≡ Some value
  pub at_least : n ≤ length (doubled value)

pub record BeginsWith (b : ℕ) (r v rest : List ℕ) : Type 0 where
  pub more : List ℕ
  pub is : v ≡ b ∷ more
  pub spelled : r ≡ doubled more ++ quote ∷ rest

begins_by : (b : ℕ) (r : List ℕ) (c : ℕ) (u rest : List ℕ) (t : Bool) → eqb c quote ≡ t → eqb b quote ≡ false → b ∷ r ≡ cond t (quote ∷ quote ∷ doubled u) (c ∷ doubled u) ++ quote ∷ rest → BeginsWith b r (c ∷ u) rest
begins_by b r c u rest true q other e = absurd (eqb-false b quote other (cc))
begins_by b r c u rest false q other e = record { more = u; is = cc; spelled = cc }

begins_with : (b : ℕ) (r v rest : List ℕ) → eqb b quote ≡ false → b ∷ r ≡ doubled v ++ quote ∷ rest → BeginsWith b r v rest
begins_with b r [] rest other e = absurd (eqb-false b quote other (cc))
begins_with b r (c ∷ u) rest other e = begins_by b r c u rest (eqb c quote) refl other e

-- a quote first closes a text at once, or is doubled
pub record Doubles (x v rest : List ℕ) : Type 0 where
  pub more : List ℕ
  pub is : v ≡ quote ∷ more
  pub spelled : x ≡ quote ∷ (doubled more ++ quote ∷ rest)

doubles_by : (x : List ℕ) (c : ℕ) (u rest : List ℕ) (t : Bool) → eqb c quote ≡ t → quote ∷ x ≡ cond t (quote ∷ quote ∷ doubled u) (c ∷ doubled u) ++ quote ∷ rest → Doubles x (c ∷ u) rest
doubles_by x c u rest true q e = record { more = u; is = ap (λ b. b ∷ u) (eqb-true c quote q); spelled = cc }
doubles_by x c u rest false q e = absurd (eqb-false c quote q (cc))

doubles : (x v rest : List ℕ) → quote ∷ x ≡ doubled v ++ quote ∷ rest → (v ≡ []) ⊎ Doubles x v rest
doubles x [] rest e = inl refl
doubles x (c ∷ u) rest e = inr (doubles_by x c u rest (eqb c quote) refl e)

reaches_other : (b : ℕ) (r u : List ℕ) → eqb b quote ≡ false → is_line_end b ≡ false → Reaches false r (length (doubled u)) → Reaches false (b ∷ r) (length (doubled (b ∷ u)))
reaches_other b r u q line h =
    record {
      value = b ∷ h.value;
      found = cond-false _ _ _ q ∙ cond-false _ _ _ line ∙ ap (byte_before b) h.found;
      at_least = let x = ap length (doubled-other b u q) in let y = ap length (doubled-other b h.value q) in omega (arith, h.at_least);
    }

reaches_doubled : (b : ℕ) (r u : List ℕ) → eqb b quote ≡ true → Reaches false r (length (doubled u)) → Reaches true (b ∷ r) (length (doubled (quote ∷ u)))
reaches_doubled b r u q h =
    record {
      value = quote ∷ h.value;
      found = ap Some (cond-true _ _ _ q ∙ ap quote_before h.found);
      at_least = omega (arith, h.at_least);
    }

longest_byte : (b : ℕ) (r v rest : List ℕ) (t : Bool) → eqb b quote ≡ t → b ∷ r ≡ doubled v ++ quote ∷ rest → list_all on_line v ≡ true → (quote ∷ r ≡ doubled v ++ quote ∷ rest → Reaches true r (length (doubled v))) → ((u : List ℕ) → r ≡ doubled u ++ quote ∷ rest → list_all on_line u ≡ true → Reaches false r (length (doubled u))) → Reaches false (b ∷ r) (length (doubled v))
longest_byte b r v rest true q e line after before =
    let h = after (ap (λ c. c ∷ r) (sym (eqb-true b quote q)) ∙ e) in
    record { value = h.value; found = cond-true _ _ _ q ∙ h.found; at_least = h.at_least }
longest_byte b r v rest false q e line after before =
    let w = begins_with b r v rest q e in
    let lines = and_parts (on_line b) (list_all on_line w.more) (sym (ap (list_all on_line) w.is) ∙ line) in
    subst (λ l. Reaches false (b ∷ r) (length (doubled l))) (sym w.is) (reaches_other b r w.more q (not-true _ lines.0) (before w.more w.spelled lines.1))

longest_after : (b : ℕ) (r v rest : List ℕ) → (v ≡ []) ⊎ Doubles (b ∷ r) v rest → list_all on_line v ≡ true → ((u : List ℕ) → r ≡ doubled u ++ quote ∷ rest → list_all on_line u ≡ true → Reaches false r (length (doubled u))) → Reaches true (b ∷ r) (length (doubled v))
longest_after b r v rest (inl none) line before = record { value = _; found = refl; at_least = let e = ap (λ l. length (doubled l)) none in omega arith }
longest_after b r v rest (inr d) line before =
    let lines = and_parts true (list_all on_line d.more) (sym (ap (list_all on_line) d.is) ∙ line) in
    let is : b ≡ quote = cc in
    subst (λ l. Reaches true (b ∷ r) (length (doubled l))) (sym d.is) (reaches_doubled b r d.more (ap (λ c. eqb c quote) is) (before d.more (cc) lines.1))

pub text_value-longest : (f : Bool) (r v rest : List ℕ) → with_quote f r ≡ doubled v ++ quote ∷ rest → list_all on_line v ≡ true → Reaches f r (length (doubled v))
text_value-longest true [] v rest e line = record { value = []; found = refl; at_least = omega (arith, simp length-append at (ap length e)) }
text_value-longest false [] v rest e line = absurd (omega (arith, simp length-append at (ap length e)))
text_value-longest true (b ∷ r) v rest e line = longest_after b r v rest (doubles (b ∷ r) v rest e) line (λ u h l. text_value-longest false r u rest h l)
text_value-longest false (b ∷ r) v rest e line = longest_byte b r v rest (eqb b quote) refl e line (λ h. text_value-longest true r v rest h line) (λ u h l. text_value-longest false r u rest h l)

same_tests : (b c : ℕ) (v u : List ℕ) (s t : Bool) → eqb b quote ≡ s → eqb c quote ≡ t → cond s (quote ∷ quote ∷ doubled v) (b ∷ doubled v) ≡ cond t (quote ∷ quote ∷ doubled u) (c ∷ doubled u) → (b ≡ c) × (doubled v ≡ doubled u)
same_tests b c v u true true p q e = (eqb-true b quote p ∙ sym (eqb-true c quote q), cc)
same_tests b c v u true false p q e = absurd (eqb-false c quote q (cc))
same_tests b c v u false true p q e = absurd (eqb-false b quote p (cc))
same_tests b c v u false false p q e = (cc, cc)

some_doubled : (c : ℕ) (u : List ℕ) (t : Bool) → [] ≡ cond t (quote ∷ quote ∷ doubled u) (c ∷ doubled u) → ⊥
some_doubled c u true e = cc
some_doubled c u false e = cc

-- doubling loses nothing
pub doubled-injective : (v u : List ℕ) → doubled v ≡ doubled u → v ≡ u
doubled-injective [] [] e = refl
doubled-injective [] (c ∷ u) e = absurd (some_doubled c u (eqb c quote) e)
doubled-injective (b ∷ v) [] e = absurd (some_doubled b v (eqb b quote) (sym e))
doubled-injective (b ∷ v) (c ∷ u) e =
    let h = same_tests b c v u (eqb b quote) (eqb c quote) refl refl e in
    λ k. h.0 k ∷ doubled-injective v u h.1 k

-- ---- the pass over the bytes

-- what the pass finds, told by the text behind
abbrev pub ended : Option (ℕ × ℕ) → Bool → ℕ → ℕ → Option (List ℕ) → Option (ℕ × ℕ)
ended closed f i n None = closed
ended closed true i n (Some v) = Some (i + length (doubled v), n + length v)
ended closed false i n (Some v) = Some (i + length (doubled v) + 1, n + length v)

found_at : (i j n m : ℕ) → i ≡ j → n ≡ m → ◌≡◌ {A = Option (ℕ × ℕ)} (Some (i, n)) (Some (j, m))
found_at i j n m e h = λ k. Some (e k, h k)

ended_after : (closed : Option (ℕ × ℕ)) (i n : ℕ) (o : Option (List ℕ)) → closed ≡ Some (i, n) → ended closed false (i + 1) (n + 1) o ≡ ended closed true i n (Some (quote_before o))
ended_after closed i n None e = e ∙ found_at i (i + 0) n (n + 0) (omega arith) (omega arith)
ended_after closed i n (Some v) e = found_at _ _ _ _ (omega arith) (omega arith)

end_after : (closed : Option (ℕ × ℕ)) (i n b : ℕ) (r : List ℕ) (t : Bool) → closed ≡ Some (i, n) → text_end closed false (i + 1) (n + 1) r ≡ ended closed false (i + 1) (n + 1) (text_value false r) → cond t (text_end closed false (i + 1) (n + 1) r) closed ≡ ended closed true i n (Some (cond t (quote_before (text_value false r)) []))
end_after closed i n b r true e before = before ∙ ended_after closed i n (text_value false r) e
end_after closed i n b r false e before = e ∙ found_at i (i + 0) n (n + 0) (omega arith) (omega arith)

ended_quote : (closed : Option (ℕ × ℕ)) (i n : ℕ) (r : List ℕ) → ended (Some (i + 1, n)) true (i + 1) n (text_value true r) ≡ ended closed false i n (text_value true r)
ended_quote closed i n [] = found_at _ _ _ _ (omega arith) refl
ended_quote closed i n (b ∷ r) = found_at _ _ _ _ (omega arith) refl

ended_other : (closed : Option (ℕ × ℕ)) (i n b : ℕ) (o : Option (List ℕ)) → eqb b quote ≡ false → ended closed false (i + 1) (n + 1) o ≡ ended closed false i n (byte_before b o)
ended_other closed i n b None q = refl
ended_other closed i n b (Some v) q = let e = ap length (doubled-other b v q) in found_at _ _ _ _ (omega arith) (omega arith)

end_byte : (closed : Option (ℕ × ℕ)) (i n b : ℕ) (r : List ℕ) (t line : Bool) → eqb b quote ≡ t → text_end (Some (i + 1, n)) true (i + 1) n r ≡ ended (Some (i + 1, n)) true (i + 1) n (text_value true r) → text_end closed false (i + 1) (n + 1) r ≡ ended closed false (i + 1) (n + 1) (text_value false r) → cond t (text_end (Some (i + 1, n)) true (i + 1) n r) (cond line closed (text_end closed false (i + 1) (n + 1) r)) ≡ ended closed false i n (cond t (text_value true r) (cond line None (byte_before b (text_value false r))))
end_byte closed i n b r true line q after before = after ∙ ended_quote closed i n r
end_byte closed i n b r false true q after before = refl
end_byte closed i n b r false false q after before = before ∙ ended_other closed i n b (text_value false r) q

pub text_end-is : (closed : Option (ℕ × ℕ)) (f : Bool) (i n : ℕ) (r : List ℕ) → (f ≡ true → closed ≡ Some (i, n)) → text_end closed f i n r ≡ ended closed f i n (text_value f r)
text_end-is closed true i n [] h = h refl ∙ found_at i (i + 0) n (n + 0) (omega arith) (omega arith)
text_end-is closed false i n [] h = refl
text_end-is closed true i n (b ∷ r) h = end_after closed i n b r (eqb b quote) (h refl) (text_end-is closed false (i + 1) (n + 1) r (λ e. absurd (cc)))
text_end-is closed false i n (b ∷ r) h = end_byte closed i n b r (eqb b quote) (is_line_end b) refl (text_end-is (Some (i + 1, n)) true (i + 1) n r (λ _. refl)) (text_end-is closed false (i + 1) (n + 1) r (λ e. absurd (cc)))
