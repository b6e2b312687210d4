-- What each parameter stands for once all have been bound.
use Rattle.std.proofs.Common.{◌≡◌, ℕ, ℤ, zero, suc, ◌+◌, ◌-◌, ◌*◌, ◌^◌, ◌<◌, ◌≤◌, inl, inr, List, [], ◌∷◌, length, Some}
use Rattle.std.proofs.Common.{refl, sym, ap, ◌∙◌, subst, arith}
use Rattle.std.proofs.lemmas.Bool.{eq-eqb}
use Rattle.std.specs.Prelude.{cond, slice_get, ⊤}
use Rattle.pli_meaning.specs.Making.{living_at}
use Rattle.pli_meaning.specs.StorageState.{Binding, binding_of, living_of, newest_height}
use Rattle.pli_serving.specs.Templates.{shape_at}
use Rattle.storage_relation.proofs.Holders.{eqb-other}
use Rattle.activation_relation.specs.FrameLaws.{with_waits}
use Rattle.activation_relation.specs.Layers.{Layer, Point}
use Rattle.activation_relation.specs.Variables.{grown}
use Rattle.argument_runs.specs.Copies.{copy_generation, copy_made_of}
use Rattle.argument_runs.specs.Parameters.{HasName}
use Rattle.list_calls.specs.ListCalls.{AreNumbered}
use Rattle.list_calls.specs.ListKnown.{IsStored}
use Rattle.list_calls.specs.Lists.{Parameter, Passing, PassesCopy, PassesName, Told, binding_as, bindings_with}
use Rattle.list_calls.specs.Lists.{bound_all, bound_told, copied_at, copies_in, copy_with, name_told, named_as}
use Rattle.list_calls.specs.Taking.{AreApart, IsElsewhere}
use Rattle.list_calls.proofs.Binding.{AreGiven, given_moves}
use Rattle.list_calls.proofs.PartWords.{bound_other, name_has, name_moves, name_other}

-- ---- the names that are passed stand for what lives

abbrev pub AreKept : Point → List Passing → Type 0
AreKept p [] = ⊤
AreKept p (PassesCopy z ∷ ys) = AreKept p ys
AreKept p (PassesName serial signature ∷ ys) = IsStored p serial signature × AreKept p ys

stored_next :
    {p : Point} {serial signature : ℕ} (last : ℕ) (ψ φ : Layer) (φs : List Layer) (x : Parameter) (z : ℤ) →
    IsStored p serial signature → IsStored (copied_at last ψ φ φs (copy_with x z) p) serial signature
stored_next {p} {serial} last ψ φ φs x z h =
    let old = h.old in
    let new = p.state.serials + 1 in
    let place = ψ.lower - 16 in
    let added = living_at new (newest_height p.state.activations) (copy_generation (copy_with x z)) in
    let apart = eqb-other new serial (λ e. omega (arith, e, old)) in
    let apart' = eqb-other serial new (λ e. omega (arith, e, old)) in
    let at : (copied_at last ψ φ φs (copy_with x z) p).places.at serial ≡ p.places.at serial =
    ap (λ q. cond q place (p.places.at serial)) apart' in
    record {
      old = omega (arith, old);
      living = h.living;
      lives = ap (λ q. cond q (Some added) (living_of p.state.living serial)) apart ∙ h.lives;
      shape = h.shape;
      numbered = h.numbered;
      small = h.small;
      number = h.number;
      low = subst (λ n. 2 ^ 22 ≤ n) (sym at) h.low;
      inside = subst (λ n. n + 4 ≤ 15 * 2 ^ 20) (sym at) h.inside;
    }

stored_named :
    {p : Point} {serial signature : ℕ} (x : Parameter) (serial' : ℕ) → IsStored p serial signature →
    IsStored (named_as x serial' p) serial signature
stored_named x serial' h =
    record {
      old = h.old;
      living = h.living;
      lives = h.lives;
      shape = h.shape;
      numbered = h.numbered;
      small = h.small;
      number = h.number;
      low = h.low;
      inside = h.inside;
    }

kept_next :
    (p : Point) (last : ℕ) (ψ φ : Layer) (φs : List Layer) (x : Parameter) (z : ℤ) (ys : List Passing) → AreKept p ys →
    AreKept (copied_at last ψ φ φs (copy_with x z) p) ys
kept_next p last ψ φ φs x z [] h = tt
kept_next p last ψ φ φs x z (PassesCopy z' ∷ ys) h = kept_next p last ψ φ φs x z ys h
kept_next p last ψ φ φs x z (PassesName serial signature ∷ ys) h =
    (stored_next last ψ φ φs x z h.0, kept_next p last ψ φ φs x z ys h.1)

kept_named :
    (p : Point) (x : Parameter) (serial : ℕ) (ys : List Passing) → AreKept p ys → AreKept (named_as x serial p) ys
kept_named p x serial [] h = tt
kept_named p x serial (PassesCopy z ∷ ys) h = kept_named p x serial ys h
kept_named p x serial (PassesName serial' signature ∷ ys) h =
    (stored_named x serial h.0, kept_named p x serial ys h.1)

-- what is stored stays so
stored_on :
    (words : ℕ) (xs : List Parameter) (ys : List Passing) (ψ φ : Layer) (φs : List Layer) (p : Point)
    (serial signature : ℕ) → IsStored p serial signature →
    IsStored (bound_all words xs ys ψ φ φs p) serial signature
stored_on words [] ys ψ φ φs p serial signature h = h
stored_on words (x ∷ xs) [] ψ φ φs p serial signature h = h
stored_on words (x ∷ xs) (PassesCopy z ∷ ys) ψ φ φs p serial signature h =
    let last = words + 6 * length ys in
    stored_on words xs ys (grown (copy_made_of ψ (copy_with x z)) ψ)
    (with_waits (name_told last (p.state.serials + 1) x.number 1 φ.waits) φ) φs
    (copied_at last ψ φ φs (copy_with x z) p) serial signature (stored_next last ψ φ φs x z h)
stored_on words (x ∷ xs) (PassesName serial' signature' ∷ ys) ψ φ φs p serial signature h =
    stored_on words xs ys ψ φ φs (named_as x serial' p) serial signature (stored_named x serial' h)

-- ---- what is asked of the point

pub record Lies (words : ℕ) (xs : List Parameter) (ys : List Passing) (ψ φ : Layer) (p : Point) : Type 0 where
  pub many : length xs ≡ length ys
  pub given : AreGiven words φ.waits ys
  pub numbered : AreNumbered (λ m. shape_at p.places.signatures m) xs
  pub serial : p.state.serials + copies_in ys < 2 ^ 64
  pub low : 2 ^ 22 + 16 * copies_in ys ≤ ψ.lower
  pub high : ψ.lower ≤ 15 * 2 ^ 20

lies_copied :
    {words : ℕ} {x : Parameter} {xs : List Parameter} {z : ℤ} {ys : List Passing} {ψ φ : Layer} {p : Point}
    (φs : List Layer) → Lies words (x ∷ xs) (PassesCopy z ∷ ys) ψ φ p →
    Lies words xs ys (grown (copy_made_of ψ (copy_with x z)) ψ)
    (with_waits (name_told (words + 6 * length ys) (p.state.serials + 1) x.number 1 φ.waits) φ)
    (copied_at (words + 6 * length ys) ψ φ φs (copy_with x z) p)
lies_copied {words = words} {x = x} {ys = ys} {φ = φ} {p = p} φs h =
    let many = h.many in
    let serial = h.serial in
    let low = h.low in
    let high = h.high in
    let last = words + 6 * length ys in
    record {
      many = omega (arith, many);
      given = given_moves words φ.waits (name_told last (p.state.serials + 1) x.number 1 φ.waits) ys
          (λ i less. name_other last (p.state.serials + 1) x.number 1 i φ.waits (inl less)) h.given.3;
      numbered = h.numbered.2;
      serial = omega (arith, serial);
      low = omega (arith, low);
      high = omega (arith, high);
    }

lies_named :
    {words : ℕ} {x : Parameter} {xs : List Parameter} {serial signature : ℕ} {ys : List Passing} {ψ φ : Layer}
    {p : Point} → Lies words (x ∷ xs) (PassesName serial signature ∷ ys) ψ φ p →
    Lies words xs ys ψ φ (named_as x serial p)
lies_named h =
    let many = h.many in
    record {
      many = omega (arith, many);
      given = h.given.2;
      numbered = h.numbered.2;
      serial = h.serial;
      low = h.low;
      high = h.high;
    }

-- a copy that has just been made
copied_stored :
    {words : ℕ} {x : Parameter} {xs : List Parameter} {z : ℤ} {ys : List Passing} {ψ φ : Layer} {p : Point}
    (φs : List Layer) → Lies words (x ∷ xs) (PassesCopy z ∷ ys) ψ φ p →
    IsStored (copied_at (words + 6 * length ys) ψ φ φs (copy_with x z) p) (p.state.serials + 1) x.number
copied_stored {words = words} {x = x} {z = z} {ys = ys} {ψ = ψ} {φ = φ} {p = p} φs h =
    let serial = h.serial in
    let low = h.low in
    let high = h.high in
    let new = p.state.serials + 1 in
    let place = ψ.lower - 16 in
    let added = living_at new (newest_height p.state.activations) (copy_generation (copy_with x z)) in
    let itself = eq-eqb new new refl in
    let at : (copied_at (words + 6 * length ys) ψ φ φs (copy_with x z) p).places.at new ≡ place =
    ap (λ q. cond q place (p.places.at new)) itself in
    record {
      old = omega arith;
      living = added;
      lives = ap (λ q. cond q (Some added) (living_of p.state.living new)) itself;
      shape = refl;
      numbered = h.numbered.0;
      small = omega (arith, serial);
      number = h.numbered.1;
      low = subst (λ j. 2 ^ 22 ≤ j) (sym at) (omega (arith, low));
      inside = subst (λ j. j + 4 ≤ 15 * 2 ^ 20) (sym at) (omega (arith, high, low));
    }

-- ---- what it is bound to stays so

binding_stays :
    (i serials : ℕ) (xs : List Parameter) (ys : List Passing) (bs : List Binding) → IsElsewhere i xs →
    binding_of (bindings_with serials xs ys bs) i ≡ binding_of bs i
binding_stays i serials [] ys bs out = refl
binding_stays i serials (x ∷ xs) [] bs out = refl
binding_stays i serials (x ∷ xs) (PassesCopy z ∷ ys) bs out =
    binding_stays i (serials + 1) xs ys (binding_as x (serials + 1) ∷ bs) out.1
    ∙ ap (λ q. cond q (Some (binding_as x (serials + 1))) (binding_of bs i)) (eqb-other x.index i out.0)
binding_stays i serials (x ∷ xs) (PassesName serial signature ∷ ys) bs out =
    binding_stays i serials xs ys (binding_as x serial ∷ bs) out.1
    ∙ ap (λ q. cond q (Some (binding_as x serial)) (binding_of bs i)) (eqb-other x.index i out.0)

binding_first :
    (x : Parameter) (serial : ℕ) (bs : List Binding) →
    binding_of (binding_as x serial ∷ bs) x.index ≡ Some (binding_as x serial)
binding_first x serial bs =
    ap (λ q. cond q (Some (binding_as x serial)) (binding_of bs x.index)) (eq-eqb x.index x.index refl)

-- ---- each of them

pub record Stands' (q : Point) (bs : List Binding) (told : Told) (words many n : ℕ) (x : Parameter) : Type 0 where
  pub serial : ℕ
  pub signature : ℕ
  pub binding : binding_of bs x.index ≡ Some (binding_as x serial)
  pub stored : IsStored q serial signature
  pub last : ℕ
  pub ends : last + 6 + 6 * n ≡ words + 6 * many
  pub name : HasName told last serial signature

some_is : {a b : Parameter} → Some a ≡ Some b → a ≡ b
some_is e = cc e

pub stands_for :
    (words n : ℕ) (x : Parameter) (xs : List Parameter) (ys : List Passing) (ψ φ : Layer) (φs : List Layer) (p : Point) (bs : List Binding) →
    Lies words xs ys ψ φ p → AreApart xs → AreKept p ys → slice_get xs n ≡ Some x →
    Stands' (bound_all words xs ys ψ φ φs p) (bindings_with p.state.serials xs ys bs)
    (bound_told words p.state.serials xs ys φ.waits) words (length ys) n x
stands_for words n x [] ys ψ φ φs p bs h apart kept e = absurd (cc e)
stands_for words n x (x' ∷ xs) [] ψ φ φs p bs h apart kept e =
    absurd (let many = h.many in omega (arith, many))
stands_for words zero x (x' ∷ xs) (PassesCopy z ∷ ys) ψ φ φs p bs h apart kept e =
    let last = words + 6 * length ys in
    let new = p.state.serials + 1 in
    let told = name_told last new x'.number 1 φ.waits in
    subst (λ t. Stands' (bound_all words (x' ∷ xs) (PassesCopy z ∷ ys) ψ φ φs p)
    (bindings_with p.state.serials (x' ∷ xs) (PassesCopy z ∷ ys) bs)
    (bound_told words p.state.serials (x' ∷ xs) (PassesCopy z ∷ ys) φ.waits) words (length (PassesCopy z ∷ ys)) 0 t)
    (some_is e)
    (record {
      serial = new;
      signature = x'.number;
      binding = binding_stays x'.index new xs ys (binding_as x' new ∷ bs) apart.0 ∙ binding_first x' new bs;
      stored = stored_on words xs ys (grown (copy_made_of ψ (copy_with x' z)) ψ) (with_waits told φ) φs
          (copied_at last ψ φ φs (copy_with x' z) p) new x'.number (copied_stored φs h);
      last = last;
      ends = omega arith;
      name = name_moves (λ i least. bound_other words new i xs ys told (inr least))
          (name_has last new x'.number 1 φ.waits);
    })
stands_for words zero x (x' ∷ xs) (PassesName serial signature ∷ ys) ψ φ φs p bs h apart kept e =
    let last = words + 6 * length ys in
    subst (λ t. Stands' (bound_all words (x' ∷ xs) (PassesName serial signature ∷ ys) ψ φ φs p)
    (bindings_with p.state.serials (x' ∷ xs) (PassesName serial signature ∷ ys) bs)
    (bound_told words p.state.serials (x' ∷ xs) (PassesName serial signature ∷ ys) φ.waits) words
    (length (PassesName serial signature ∷ ys)) 0 t) (some_is e)
    (record {
      serial = serial;
      signature = signature;
      binding = binding_stays x'.index p.state.serials xs ys (binding_as x' serial ∷ bs) apart.0
          ∙ binding_first x' serial bs;
      stored = stored_on words xs ys ψ φ φs (named_as x' serial p) serial signature
          (stored_named x' serial kept.0);
      last = last;
      ends = omega arith;
      name = name_moves (λ i least. bound_other words p.state.serials i xs ys φ.waits (inr least)) h.given.0;
    })
stands_for words (suc n) x (x' ∷ xs) (PassesCopy z ∷ ys) ψ φ φs p bs h apart kept e =
    let last = words + 6 * length ys in
    let new = p.state.serials + 1 in
    let r = stands_for words n x xs ys (grown (copy_made_of ψ (copy_with x' z)) ψ)
    (with_waits (name_told last new x'.number 1 φ.waits) φ) φs (copied_at last ψ φ φs (copy_with x' z) p)
    (binding_as x' new ∷ bs) (lies_copied φs h) apart.1 (kept_next p last ψ φ φs x' z ys kept) e in
    let ends = r.ends in
    record {
      serial = r.serial;
      signature = r.signature;
      binding = r.binding;
      stored = r.stored;
      last = r.last;
      ends = omega (arith, ends);
      name = r.name;
    }
stands_for words (suc n) x (x' ∷ xs) (PassesName serial signature ∷ ys) ψ φ φs p bs h apart kept e =
    let r = stands_for words n x xs ys ψ φ φs (named_as x' serial p) (binding_as x' serial ∷ bs)
    (lies_named h) apart.1 (kept_named p x' serial ys kept.1) e in
    let ends = r.ends in
    record {
      serial = r.serial;
      signature = r.signature;
      binding = r.binding;
      stored = r.stored;
      last = r.last;
      ends = omega (arith, ends);
      name = r.name;
    }
