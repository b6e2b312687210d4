-- What lives stays in its place, and as much is in use: through acts, blocks, variables that are made, and assignments.
use Rattle.std.proofs.Common.{◌≡◌, ◌≢◌, ◌⊎◌, inl, inr, ℕ, ◌+◌, ◌≤◌, ◌<◌, List, [], ◌∷◌, Option, Some, None}
use Rattle.std.proofs.Common.{Bool, true, false, length, refl, sym, ap, ◌∙◌, subst, arith}
use Rattle.std.proofs.lemmas.Bool.{cases_eq, eqb-true}
use Rattle.std.specs.Prelude.{cond, ◌==◌}
use Rattle.activation_relation.proofs.BlockVariables.{bound_length}
use Rattle.activation_relation.proofs.InUse.{in_use_all, in_use_assigned, in_use_made, in_use_without}
use Rattle.pli_meaning.specs.BasicValues.{BasicValue, VariableName}
use Rattle.pli_meaning.specs.Evaluating.{Designated}
use Rattle.pli_meaning.specs.Making.{living_at}
use Rattle.pli_meaning.specs.Placing.{with_element}
use Rattle.pli_meaning.specs.Raising.{Entry}
use Rattle.pli_meaning.specs.StorageState.{Activation, Binding, Living, State, automatic_in_use, generation_changed}
use Rattle.pli_meaning.specs.StorageState.{living_changed, living_of, newest_height, without_newest, without_owner}
use Rattle.pli_meaning.specs.World.{World}
use Rattle.pli_serving.specs.ServiceState as S
use Rattle.pli_typing.specs.TypedTree as Y
use Rattle.storage_relation.proofs.Holders.{eqb-refl, eqb-other, living_of-changed, living_of-others}
use Rattle.storage_relation.proofs.Placing.{none_above}
use Rattle.storage_relation.proofs.Signatures.{extends_kept}
use Rattle.storage_relation.proofs.Fills.{grows_few, grows_kept, grows_same, grows_then}
use Rattle.storage_relation.specs.Fills.{most_filled}
use Rattle.storage_relation.specs.Stored.{AreLow, Extends, KeepNumbers, Lives}
use Rattle.activation_relation.specs.Changes.{popped, popped_from, pushed, with_act, with_line}
use Rattle.activation_relation.specs.Layers.{Layer, Point}
use Rattle.activation_relation.specs.Remaining.{LivesOn, Remains, in_use_up_to, with_assigned}
use Rattle.activation_relation.specs.Variables.{Made, with_made}

lives_same : (l : Living) (o : Option Living) → o ≡ Some l → LivesOn l o
lives_same l o e = record { there = l; lives = e; owner = refl; shape = refl }

pub remains_same : (p : Point) → Remains p p
remains_same p =
    record {
      living = λ n l e. lives_same l (living_of p.state.living n) e;
      serials = omega arith;
      at = λ n few. refl;
      number = λ n few. refl;
      signatures = grows_same p.places.fills p.places.signatures;
      statics = refl;
      low = refl;
      constants = refl;
      active = omega arith;
      in_use = λ height low. refl;
    }

pub shapes_remain : {p q : Point} → Remains p q → Extends p.places.signatures q.places.signatures
shapes_remain {p} {q} r =
    extends_kept p.places.signatures q.places.signatures
    (grows_kept p.places.fills q.places.fills p.places.signatures q.places.signatures r.signatures)

pub numbers_remain : (p q : Point) → Remains p q → KeepNumbers p.places.signatures q.places.signatures
numbers_remain p q r = grows_kept p.places.fills q.places.fills p.places.signatures q.places.signatures r.signatures

pub signatures_few :
    (p q : Point) → Remains p q →
    length q.places.signatures ≤ length p.places.signatures + most_filled p.places.fills
signatures_few p q r = grows_few p.places.fills q.places.fills p.places.signatures q.places.signatures r.signatures

pub remains_then : (p q r : Point) → Remains p q → Remains q r → Remains p r
remains_then p q r a b =
    let m = a.serials in
    let n = b.serials in
    let deep = a.active in
    let deeper = b.active in
    record {
      living = λ i l e.
          let x = a.living i l e in
          let y = b.living i x.there x.lives in
          record {
            there = y.there;
            lives = y.lives;
            owner = y.owner ∙ x.owner;
            shape = y.shape ∙ x.shape;
          };
      serials = omega (arith, m, n);
      at = λ i few. b.at i (omega (arith, m, few)) ∙ a.at i few;
      number = λ i few. b.number i (omega (arith, m, few)) ∙ a.number i few;
      signatures = grows_then p.places.fills q.places.fills r.places.fills p.places.signatures q.places.signatures
          r.places.signatures a.signatures b.signatures;
      statics = b.statics ∙ a.statics;
      low = b.low ∙ a.low;
      constants = b.constants ∙ a.constants;
      active = omega (arith, deep, deeper);
      in_use = λ height low. b.in_use height (omega (arith, low, deep)) ∙ a.in_use height low;
    }

pub remains_acted : (p : Point) (change : World → World) (line : ℕ) → Remains p (with_act change (with_line line p))
remains_acted p change line =
    record {
      living = λ n l e. lives_same l (living_of p.state.living n) e;
      serials = omega arith;
      at = λ n few. refl;
      number = λ n few. refl;
      signatures = grows_same p.places.fills p.places.signatures;
      statics = refl;
      low = refl;
      constants = refl;
      active = omega arith;
      in_use = λ height low. refl;
    }

pub remains_entered :
    (p : Point) (head : Y.BlockHead) (entry : Entry) (φ : Layer) (line : ℕ) → Remains p (pushed head entry φ line p)
remains_entered p head entry φ line =
    record {
      living = λ n l e. lives_same l (living_of p.state.living n) e;
      serials = omega arith;
      at = λ n few. refl;
      number = λ n few. refl;
      signatures = grows_same p.places.fills p.places.signatures;
      statics = refl;
      low = refl;
      constants = refl;
      active = omega arith;
      in_use = λ height low. refl;
    }

-- ---- one more variable

-- the holder that is made
abbrev made_living : Point → Made → Living
made_living q x = living_at (q.state.serials + 1) (newest_height q.state.activations) x.generation

remains_with :
    (p q : Point) (x : Made) → Remains p q →
    ((n : ℕ) (l : Living) → living_of q.state.living n ≡ Some l →
    living_of (made_living q x ∷ q.state.living) n ≡ Some l) →
    ((height : ℕ) → height ≤ length p.state.activations →
    in_use_up_to height (made_living q x ∷ q.state.living) ≡ in_use_up_to height q.state.living) →
    Remains p (with_made x q)
remains_with p q x r found same =
    let fewer = r.serials in
    record {
      living = λ n l e.
          let y = r.living n l e in
          record { there = y.there; lives = found n y.there y.lives; owner = y.owner; shape = y.shape };
      serials = omega (arith, fewer);
      at = λ n few. ap (λ c. cond c x.place (q.places.at n)) (other n (omega (arith, few, fewer))) ∙ r.at n few;
      number = λ n few.
          ap (λ c. cond c x.number (q.places.number n)) (other n (omega (arith, few, fewer))) ∙ r.number n few;
      signatures = r.signatures;
      statics = r.statics;
      low = r.low;
      constants = r.constants;
      active = subst (λ n. length p.state.activations ≤ n) (sym (bound_length binding q.state.activations)) r.active;
      in_use = λ height low. same height low ∙ r.in_use height low;
    }
  where
    binding : Binding
    binding =
        record {
          variable = x.variable;
          name = VariableName (q.state.serials + 1);
          shape = x.generation.shape;
        }

    other : (n : ℕ) → n ≤ q.state.serials → (n == q.state.serials + 1) ≡ false
    other n few = eqb-other n (q.state.serials + 1) (λ e. omega (arith, few, e))

pub remains_made :
    (p q : Point) (x : Made) → Remains p q → Lives q.places q.state →
    length p.state.activations < newest_height q.state.activations → Remains p (with_made x q)
remains_made p q x r lives above =
    remains_with p q x r
    (λ n l e.
    let low = none_above serial q.state.living n l lives.falling e in
    ap (λ c. cond c (Some added) (living_of q.state.living n))
    (eqb-other serial n (λ f. omega (arith, low, f))) ∙ e)
    (λ height low. in_use_made height q.state.living added (omega (arith, low, above)))
  where
    serial : ℕ
    serial = q.state.serials + 1

    added : Living
    added = living_at serial (newest_height q.state.activations) x.generation

-- ---- an assignment

lives_assigned :
    (serial n : ℕ) (d : Designated) (v : BasicValue) (ls : List Living) (l : Living) → living_of ls n ≡ Some l →
    LivesOn l (living_of (living_changed serial (generation_changed (with_element d v)) ls) n)
lives_assigned serial n d v ls l e = by (cases_eq n serial)
  where
    change : Living → Living
    change = generation_changed (with_element d v)

    by : (n ≡ serial) ⊎ (n ≢ serial) → LivesOn l (living_of (living_changed serial change ls) n)
    by (inl same) =
        record {
          there = change l;
          lives =
              subst (λ i. living_of (living_changed i change ls) n ≡ Some (change l)) same
              (living_of-changed n change ls l (λ x. refl) e);
          owner = refl;
          shape = refl;
        }
    by (inr other) =
        lives_same l (living_of (living_changed serial change ls) n)
        (living_of-others serial n change ls (λ x. refl) other ∙ e)

pub remains_assigned :
    (p : Point) (serial : ℕ) (d : Designated) (v : BasicValue) → Remains p (with_assigned serial d v p)
remains_assigned p serial d v =
    record {
      living = λ n l e. lives_assigned serial n d v p.state.living l e;
      serials = omega arith;
      at = λ n few. refl;
      number = λ n few. refl;
      signatures = grows_same p.places.fills p.places.signatures;
      statics = refl;
      low = refl;
      constants = refl;
      active = omega arith;
      in_use = λ height low. in_use_assigned height serial d v p.state.living;
    }

-- ---- a block ends

low_owner :
    (most n : ℕ) (ls : List Living) (l : Living) → AreLow most ls → living_of ls n ≡ Some l → l.owner ≤ most
low_owner most n [] l low e = absurd (cc e)
low_owner most n (x ∷ ls) l low e = by (x.serial == n) e (λ f. low_owner most n ls l low.1 f)
  where
    by :
        (q : Bool) → cond q (Some x) (living_of ls n) ≡ Some l → (living_of ls n ≡ Some l → l.owner ≤ most) →
        l.owner ≤ most
    by true e rest = let same : x ≡ l = cc e in subst (λ (y : Living). y.owner ≤ most) same low.0
    by false e rest = rest e

-- who has another owner is still there
without_found :
    (height n : ℕ) (ls : List Living) (l : Living) → l.owner ≢ height → living_of ls n ≡ Some l →
    living_of (without_owner height ls) n ≡ Some l
without_found height n [] l ne e = e
without_found height n (x ∷ ls) l ne e =
    by (x.owner == height) refl (x.serial == n) refl e (λ f. without_found height n ls l ne f)
  where
    rest' : List Living
    rest' = without_owner height ls

    by :
        (q : Bool) → (x.owner == height) ≡ q → (r : Bool) → (x.serial == n) ≡ r →
        cond r (Some x) (living_of ls n) ≡ Some l → (living_of ls n ≡ Some l → living_of rest' n ≡ Some l) →
        living_of (cond q rest' (x ∷ rest')) n ≡ Some l
    by true q true r e rest =
        let same : x ≡ l = cc e in
        absurd (ne (sym (ap (λ (y : Living). y.owner) same) ∙ eqb-true x.owner height q))
    by true q false r e rest = rest e
    by false q true r e rest = ap (λ t. cond t (Some x) (living_of rest' n)) r ∙ e
    by false q false r e rest = ap (λ t. cond t (Some x) (living_of rest' n)) r ∙ rest e

without_lives :
    (height n most : ℕ) (l : Living) (ls : List Living) → l.owner ≤ most → height ≡ most + 1 →
    LivesOn l (living_of ls n) → LivesOn l (living_of (without_owner height ls) n)
without_lives height n most l ls few e o =
    let owner = o.owner in
    record {
      there = o.there;
      lives = without_found height n ls o.there (λ f. omega (arith, few, e, owner, f)) o.lives;
      owner = o.owner;
      shape = o.shape;
    }

-- the storage machine's state alone
abbrev with_state : State → Point → Point
with_state s p = record p { state = s }

ended_remains :
    (p q : Point) (a : Activation) (as' : List Activation) → Remains p q → q.state.activations ≡ a ∷ as' →
    AreLow (length as') p.state.living → a.height ≡ length as' + 1 → length p.state.activations ≤ length as' →
    Remains p (with_state (without_newest (a ∷ as') q.state) q)
ended_remains p q a as' r e low height deep =
    record {
      living = λ n l f.
          without_lives a.height n (length as') l q.state.living (low_owner (length as') n p.state.living l low f)
          height (r.living n l f);
      serials = r.serials;
      at = r.at;
      number = r.number;
      signatures = r.signatures;
      statics = r.statics;
      low = r.low;
      constants = r.constants;
      active = deep;
      in_use = λ n few.
          in_use_without n a.height q.state.living (omega (arith, few, deep, height)) ∙ r.in_use n few;
    }

pub remains_left :
    (p q : Point) (a : Activation) (as' : List Activation) (kept : List S.Entry) → Remains p q →
    q.state.activations ≡ a ∷ as' → AreLow (length as') p.state.living → a.height ≡ length as' + 1 →
    length p.state.activations ≤ length as' → Remains p (popped kept q)
remains_left p q a as' kept r e low height deep =
    by q.control.layers
    (subst (λ xs. Remains p (with_state (without_newest xs q.state) q)) (sym e)
    (ended_remains p q a as' r e low height deep))
  where
    by :
        (ls : List Layer) → Remains p (with_state (without_newest q.state.activations q.state) q) →
        Remains p (popped_from kept ls q)
    by [] o = r
    by (φ ∷ φs) o =
        record {
          living = o.living;
          serials = o.serials;
          at = o.at;
          number = o.number;
          signatures = o.signatures;
          statics = o.statics;
          low = o.low;
          constants = o.constants;
          active = o.active;
          in_use = o.in_use;
        }

-- ---- all that is in use

pub in_use_remains :
    (p q : Point) → Remains p q → length q.state.activations ≡ length p.state.activations →
    AreLow (length p.state.activations) p.state.living → AreLow (length q.state.activations) q.state.living →
    automatic_in_use q.state.living ≡ automatic_in_use p.state.living
in_use_remains p q r many low low' =
    in_use_all (length q.state.activations) q.state.living low'
    ∙ ap (λ n. in_use_up_to n q.state.living) many
    ∙ r.in_use (length p.state.activations) (omega arith)
    ∙ sym (in_use_all (length p.state.activations) p.state.living low)
