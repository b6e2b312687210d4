-- The blocks around a block, as the class has them.
use Rattle.std.proofs.Common.{◌≡◌, ℕ, zero, suc, ◌≤◌, Bool, true, false, refl, sym, ap, ◌∙◌, subst, arith}
use Rattle.std.specs.Prelude.{◌==◌, ◌||◌}
use Rattle.std.specs.List.{list_any}
use Rattle.std.proofs.lemmas.Bool.{and_from, and_parts, eq-eqb, eqb-false, eqb-true}
use Rattle.pli_coding.specs.Environments.{Environment, block_around}
use Rattle.expression_runs.specs.Variables.{Spot}
use Rattle.number_runs.specs.Numbers.{is_place}
use Rattle.number_headlines.specs.Programs.{places_to, stand_alike}

-- a variable of one of them
abbrev pub IsAround : Environment → (level : ℕ) → Spot → Type 0
IsAround e level x = (x.level ≤ level) × (x.block ≡ block_around e x.level)

around_here :
    (e : Environment) (level : ℕ) (x : Spot) →
    is_place x (record { number = block_around e level; level = level }) ≡ true → IsAround e level x
around_here e level x h =
    let a = and_parts (x.block == block_around e level) (x.level == level) h in
    let same = eqb-true x.level level a.1 in (
      omega (arith, same),
      eqb-true x.block (block_around e level) a.0 ∙ ap (λ n. block_around e n) (sym same),
    )

either : (q r : Bool) {P : Type 0} → (q || r) ≡ true → (q ≡ true → P) → (r ≡ true → P) → P
either true r h one other = one refl
either false r h one other = other h

pub around_is :
    (e : Environment) (level : ℕ) (x : Spot) → list_any (is_place x) (places_to e level) ≡ true → IsAround e level x
around_is e zero x h =
    either (is_place x (record { number = block_around e 0; level = 0 })) false h (around_here e 0 x)
    (λ f. absurd (cc f))
around_is e (suc n) x h =
    either (is_place x (record { number = block_around e (suc n); level = suc n }))
    (list_any (is_place x) (places_to e n)) h (around_here e (suc n) x)
    (λ f. let rest = around_is e n x f in let low = rest.0 in (omega (arith, low), rest.1))

is_here :
    (e : Environment) (level : ℕ) (x : Spot) → x.level ≡ level → x.block ≡ block_around e x.level →
    is_place x (record { number = block_around e level; level = level }) ≡ true
is_here e level x same at =
    and_from (x.block == block_around e level) (x.level == level)
    (eq-eqb x.block (block_around e level) (at ∙ ap (λ n. block_around e n) same)) (eq-eqb x.level level same)

or_first : (q r : Bool) → q ≡ true → (q || r) ≡ true
or_first q r h = ap (λ t. t || r) h

or_second : (q r : Bool) → r ≡ true → (q || r) ≡ true
or_second true r h = refl
or_second false r h = h

pub is_around :
    (e : Environment) (level : ℕ) (x : Spot) → IsAround e level x → list_any (is_place x) (places_to e level) ≡ true
is_around e zero x h =
    let low = h.0 in
    or_first (is_place x (record { number = block_around e 0; level = 0 })) false
    (is_here e 0 x (omega (arith, low)) h.1)
is_around e (suc n) x h = by (x.level == suc n) refl (λ low. is_around e n x (low, h.1))
  where
    here : Bool
    here = is_place x (record { number = block_around e (suc n); level = suc n })

    by :
        (q : Bool) → (x.level == suc n) ≡ q → (x.level ≤ n → list_any (is_place x) (places_to e n) ≡ true) →
        (here || list_any (is_place x) (places_to e n)) ≡ true
    by true e' rest =
        or_first here (list_any (is_place x) (places_to e n)) (is_here e (suc n) x (eqb-true x.level (suc n) e') h.1)
    by false e' rest =
        let low = h.0 in
        let apart = eqb-false x.level (suc n) e' in
        or_second here (list_any (is_place x) (places_to e n)) (rest (omega (arith, low, apart)))

-- blocks that stand alike have the same one around at each level up to that
pub alike_at :
    (e f : Environment) (level n : ℕ) → stand_alike e f level ≡ true → n ≤ level → block_around e n ≡ block_around f n
alike_at e f zero n h low =
    let is : n ≡ 0 = omega (arith, low) in
    subst (λ m. block_around e m ≡ block_around f m) (sym is) (eqb-true (block_around e 0) (block_around f 0) h)
alike_at e f (suc level) n h low = by (n == suc level) refl (λ less. alike_at e f level n parts.1 less)
  where
    parts : ((block_around e (suc level) == block_around f (suc level)) ≡ true) × (stand_alike e f level ≡ true)
    parts = and_parts (block_around e (suc level) == block_around f (suc level)) (stand_alike e f level) h

    by :
        (q : Bool) → (n == suc level) ≡ q → (n ≤ level → block_around e n ≡ block_around f n) →
        block_around e n ≡ block_around f n
    by true e' rest =
        subst (λ m. block_around e m ≡ block_around f m) (sym (eqb-true n (suc level) e'))
        (eqb-true (block_around e (suc level)) (block_around f (suc level)) parts.0)
    by false e' rest =
        let apart = eqb-false n (suc level) e' in
        rest (omega (arith, low, apart))
