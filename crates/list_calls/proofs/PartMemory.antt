-- Memory where the copy of an argument is made at any place of a list.
use Rattle.std.proofs.Common.{◌≡◌, ℕ, suc, ◌+◌, ◌-◌, ◌*◌, ◌/◌, ◌%◌, ◌^◌, ◌<◌, ◌≤◌, ◌⊎◌, inl, inr, List, Some}
use Rattle.std.proofs.Common.{Bool, true, false, refl, ap, ◌∙◌, arith}
use Rattle.std.proofs.lemmas.Bool.Decides.{nat_tests}
use Rattle.std.specs.Prelude.{cond, ◌==◌}
use Rattle.rv_meaning.specs.Memory.{load}
use Rattle.pli_meaning.specs.BasicValues.{VariableName}
use Rattle.storage_relation.specs.Telling.{HasWords}
use Rattle.activation_relation.specs.Frames.{word_place}
use Rattle.activation_relation.specs.Layers.{Layer}
use Rattle.word_runs.specs.Words.{with_word}
use Rattle.list_calls.specs.Lists.{Told, name_told}
use Rattle.list_calls.proofs.PartPoints.{Part, part_at}
use Rattle.list_calls.proofs.PartWords.{word_other, word_same}

-- the number of the signature is told before the name is written
abbrev pub asked_told : (last signature : ℕ) → Told → Told
asked_told last signature told = with_word (last + 1) signature told

-- from one memory to the next only the name's four words change
pub record HasNamed (φ : Layer) (t : Part) (serial signature : ℕ) (told : Told) (m new : List ℕ) : Type 0 where
  pub under : part_at t + 4 * (t.last + 6) ≡ φ.at
  pub words : t.last + 6 ≤ φ.words
  pub high : 4 * φ.words ≤ φ.at
  pub mark : told t.last ≡ Some 1
  pub name : HasWords (VariableName serial) (part_at t) new
  pub before :
      (i v : ℕ) → i < φ.words → asked_told t.last signature told i ≡ Some v → load 4 m (word_place φ i) ≡ v
  pub others :
      (i : ℕ) → i < φ.words → (i < t.last + 2) ⊎ (t.last + 6 ≤ i) →
      load 4 new (word_place φ i) ≡ load 4 m (word_place φ i)

pub named_found :
    (φ : Layer) (t : Part) (serial signature i v : ℕ) (told : Told) (m new : List ℕ) →
    HasNamed φ t serial signature told m new → i < φ.words → name_told t.last serial signature 1 told i ≡ Some v →
    load 4 new (word_place φ i) ≡ v
named_found φ t serial signature i v told m new h less e = t0 (i == t.last) refl e
  where
    some : {a b : ℕ} → Some a ≡ Some b → a ≡ b
    some h = cc h

    at : (k j : ℕ) → i ≡ t.last + k → φ.at - 4 * suc (t.last + k) ≡ j → load 4 new (word_place φ i) ≡ load 4 new j
    at k j same place = ap (λ n. load 4 new (φ.at - 4 * suc n)) same ∙ ap (load 4 new) place

    rest : (i < t.last + 2) ⊎ (t.last + 6 ≤ i) → asked_told t.last signature told i ≡ Some v →
        load 4 new (word_place φ i) ≡ v
    rest out e' = h.others i less out ∙ h.before i v less e'

    t6 : (i < t.last) ⊎ (t.last + 6 ≤ i) → told i ≡ Some v → load 4 new (word_place φ i) ≡ v
    t6 (inl below) e' =
        rest (inl (omega (arith, below))) (word_other (t.last + 1) signature i told (λ f. omega (arith, below, f)) ∙ e')
    t6 (inr above) e' = rest (inr above) (word_other (t.last + 1) signature i told (λ f. omega (arith, above, f)) ∙ e')

    t5 : (i < t.last) ⊎ (t.last + 5 ≤ i) → (q : Bool) → (i == t.last + 5) ≡ q → cond q (Some 1) (told i) ≡ Some v →
        load 4 new (word_place φ i) ≡ v
    t5 out true f e' =
        let under = h.under in
        at 5 (part_at t) (grind (arith, nat_tests)) (omega (arith, under)) ∙ h.name.kind ∙ some e'
    t5 (inl below) false f e' = t6 (inl below) e'
    t5 (inr above) false f e' = t6 (inr (grind (arith, above, f, nat_tests))) e'

    t4 : (i < t.last) ⊎ (t.last + 4 ≤ i) → (q : Bool) → (i == t.last + 4) ≡ q →
        cond q (Some 0) (cond (i == t.last + 5) (Some 1) (told i)) ≡ Some v → load 4 new (word_place φ i) ≡ v
    t4 out true f e' =
        let under = h.under in
        at 4 (part_at t + 4) (grind (arith, nat_tests)) (omega (arith, under)) ∙ h.name.offset ∙ some e'
    t4 (inl below) false f e' = t5 (inl below) (i == t.last + 5) refl e'
    t4 (inr above) false f e' = t5 (inr (grind (arith, above, f, nat_tests))) (i == t.last + 5) refl e'

    t3 : (i < t.last) ⊎ (t.last + 3 ≤ i) → (q : Bool) → (i == t.last + 3) ≡ q →
        cond q (Some (serial % 2 ^ 32)) (cond (i == t.last + 4) (Some 0) (cond (i == t.last + 5) (Some 1) (told i)))
        ≡ Some v → load 4 new (word_place φ i) ≡ v
    t3 out true f e' =
        let under = h.under in
        at 3 (part_at t + 8) (grind (arith, nat_tests)) (omega (arith, under)) ∙ h.name.low ∙ some e'
    t3 (inl below) false f e' = t4 (inl below) (i == t.last + 4) refl e'
    t3 (inr above) false f e' = t4 (inr (grind (arith, above, f, nat_tests))) (i == t.last + 4) refl e'

    t2 : (i < t.last) ⊎ (t.last + 2 ≤ i) → (q : Bool) → (i == t.last + 2) ≡ q →
        cond q (Some (serial / 2 ^ 32)) (cond (i == t.last + 3) (Some (serial % 2 ^ 32)) (cond (i == t.last + 4)
        (Some 0) (cond (i == t.last + 5) (Some 1) (told i)))) ≡ Some v → load 4 new (word_place φ i) ≡ v
    t2 out true f e' =
        let under = h.under in
        at 2 (part_at t + 12) (grind (arith, nat_tests)) (omega (arith, under)) ∙ h.name.high ∙ some e'
    t2 (inl below) false f e' = t3 (inl below) (i == t.last + 3) refl e'
    t2 (inr above) false f e' = t3 (inr (grind (arith, above, f, nat_tests))) (i == t.last + 3) refl e'

    t1 : (i < t.last) ⊎ (t.last + 1 ≤ i) → (q : Bool) → (i == t.last + 1) ≡ q →
        cond q (Some signature) (cond (i == t.last + 2) (Some (serial / 2 ^ 32)) (cond (i == t.last + 3)
        (Some (serial % 2 ^ 32)) (cond (i == t.last + 4) (Some 0) (cond (i == t.last + 5) (Some 1) (told i)))))
        ≡ Some v → load 4 new (word_place φ i) ≡ v
    t1 out true f e' =
        let same : i ≡ t.last + 1 = grind (arith, nat_tests) in
        rest (inl (omega (arith, same)))
        (ap (asked_told t.last signature told) same ∙ word_same (t.last + 1) signature told ∙ e')
    t1 (inl below) false f e' = t2 (inl below) (i == t.last + 2) refl e'
    t1 (inr above) false f e' = t2 (inr (grind (arith, above, f, nat_tests))) (i == t.last + 2) refl e'

    apart : (q : Bool) → (i == t.last) ≡ q → q ≡ false → (i < t.last) ⊎ (t.last + 1 ≤ i)
    apart q f g = grind (arith, f, g, nat_tests)

    t0 : (q : Bool) → (i == t.last) ≡ q →
        cond q (Some 1) (cond (i == t.last + 1) (Some signature) (cond (i == t.last + 2) (Some (serial / 2 ^ 32))
        (cond (i == t.last + 3) (Some (serial % 2 ^ 32)) (cond (i == t.last + 4) (Some 0) (cond (i == t.last + 5)
        (Some 1) (told i)))))) ≡ Some v → load 4 new (word_place φ i) ≡ v
    t0 true f e' =
        let same : i ≡ t.last = grind (arith, nat_tests) in
        rest (inl (omega (arith, same)))
        (word_other (t.last + 1) signature i told (λ g. omega (arith, same, g)) ∙ ap told same ∙ h.mark ∙ e')
    t0 false f e' = t1 (apart false f refl) (i == t.last + 1) refl e'
