-- What a point is like once all parameters have been bound: what is changed, and what each of them stands for.
use Rattle.std.proofs.Common.{◌≡◌, ℕ, ℤ, suc, ◌+◌, ◌*◌, ◌<◌, List, [], ◌∷◌, length}
use Rattle.std.proofs.Common.{true, refl, ap, ◌∙◌, arith}
use Rattle.std.specs.Prelude.{cond, nat_le}
use Rattle.rv_meaning.specs.declared.instr.Instr.{Instr}
use Rattle.pli_meaning.specs.Control.{Normal, choose, finish, flow_on, give, looked, stored, ◌>>=◌, ◌>>◌}
use Rattle.pli_meaning.specs.Making as K
use Rattle.pli_meaning.specs.Making.{living_at, plain, with_binding, with_variable}
use Rattle.pli_meaning.specs.StorageState.{Activation, Binding, automatic_in_use}
use Rattle.pli_meaning.specs.StorageState.{most_automatic, newest_height}
use Rattle.pli_meaning.specs.declared.outcome.End.TheVariants as E
use Rattle.pli_meaning.specs.declared.outcome.Limit.TheVariants as L
use Rattle.activation_relation.specs.FrameLaws.{with_waits}
use Rattle.activation_relation.specs.Layers.{Layer, Point}
use Rattle.activation_relation.specs.Points.{Stands, Surroundings}
use Rattle.activation_relation.specs.Remaining.{Remains}
use Rattle.activation_relation.specs.Variables.{grown}
use Rattle.activation_relation.proofs.Remaining.{remains_made}
use Rattle.argument_runs.specs.Copies.{copy_generation, copy_made_of}
use Rattle.argument_runs.specs.Lists.{layered}
use Rattle.list_calls.specs.Lists.{Parameter, Passing, PassesCopy, PassesName, all_passed, binding_as}
use Rattle.list_calls.specs.Lists.{bindings_with, bound_all, bound_layer, bound_told, copied_at, copies_in, copy_with}
use Rattle.list_calls.specs.Lists.{indices_of, name_told, named_as}
use Rattle.list_calls.proofs.Binding.{Binds, IsWithin, copy_next, copy_takes, name_next, same_height}
use Rattle.list_calls.proofs.Binding.{same_length, within_first}
use Rattle.list_calls.proofs.Binding.{within_next}

-- ---- what is changed

with_bindings : List Binding → List Activation → List Activation
with_bindings bs [] = []
with_bindings bs (a ∷ as') = record a { bindings = bs } ∷ as'

pub record AreBound (xs : List Parameter) (ys : List Passing) (words : ℕ) (ψ φ : Layer) (φs : List Layer)
    (a : Activation) (as' : List Activation) (p q : Point) : Type 0 where
  pub layers :
      q.control.layers
      ≡ bound_layer xs ys ψ ∷ with_waits (bound_told words p.state.serials xs ys φ.waits) φ ∷ φs
  pub activations :
      q.state.activations ≡ record a { bindings = bindings_with p.state.serials xs ys a.bindings } ∷ as'
  pub serials : q.state.serials ≡ p.state.serials + copies_in ys
  pub world : q.state.world ≡ p.state.world
  pub waiting : q.control.waiting ≡ p.control.waiting
  pub entries : q.control.entries ≡ p.control.entries
  pub edits : q.control.edits ≡ p.control.edits
  pub line : q.control.line ≡ p.control.line

pub all_bound :
    (words : ℕ) (xs : List Parameter) (ys : List Passing) (ψ φ : Layer) (φs : List Layer) (a : Activation)
    (as' : List Activation) (p : Point) → length xs ≡ length ys → p.control.layers ≡ ψ ∷ φ ∷ φs →
    p.state.activations ≡ a ∷ as' →
    AreBound xs ys words ψ φ φs a as' p (bound_all words xs ys ψ φ φs p)
all_bound words [] [] ψ φ φs a as' p many newest active =
    record {
      layers = newest;
      activations = active;
      serials = omega arith;
      world = refl;
      waiting = refl;
      entries = refl;
      edits = refl;
      line = refl;
    }
all_bound words [] (y ∷ ys) ψ φ φs a as' p many newest active = absurd (omega (arith, many))
all_bound words (x ∷ xs) [] ψ φ φs a as' p many newest active = absurd (omega (arith, many))
all_bound words (x ∷ xs) (PassesCopy z ∷ ys) ψ φ φs a as' p many newest active =
    let last = words + 6 * length ys in
    let b = binding_as x (p.state.serials + 1) in
    let h = all_bound words xs ys (grown (copy_made_of ψ (copy_with x z)) ψ)
    (with_waits (name_told last (p.state.serials + 1) x.number 1 φ.waits) φ) φs
    (record a { bindings = b ∷ a.bindings }) as' (copied_at last ψ φ φs (copy_with x z) p) (omega (arith, many)) refl
    (ap (with_binding b) active) in
    let serials = h.serials in
    record {
      layers = h.layers;
      activations = h.activations;
      serials = omega (arith, serials);
      world = h.world;
      waiting = h.waiting;
      entries = h.entries;
      edits = h.edits;
      line = h.line;
    }
all_bound words (x ∷ xs) (PassesName serial signature ∷ ys) ψ φ φs a as' p many newest active =
    let b = binding_as x serial in
    let h = all_bound words xs ys ψ φ φs (record a { bindings = b ∷ a.bindings }) as' (named_as x serial p)
    (omega (arith, many)) newest (ap (with_binding b) active) in
    record {
      layers = h.layers;
      activations = h.activations;
      serials = h.serials;
      world = h.world;
      waiting = h.waiting;
      entries = h.entries;
      edits = h.edits;
      line = h.line;
    }

-- ---- what lived lives on

remains_named : (p q : Point) (x : Parameter) (serial : ℕ) → Remains p q → Remains p (named_as x serial q)
remains_named p q x serial r =
    let n = same_length (binding_as x serial) q.state.activations in
    let active = r.active in
    record {
      living = r.living;
      serials = r.serials;
      at = r.at;
      number = r.number;
      signatures = r.signatures;
      statics = r.statics;
      low = r.low;
      constants = r.constants;
      active = omega (arith, n, active);
      in_use = r.in_use;
    }

remains_layered : (p q : Point) (ls : List Layer) → Remains p q → Remains p (layered ls q)
remains_layered p q ls r =
    record {
      living = r.living;
      serials = r.serials;
      at = r.at;
      number = r.number;
      signatures = r.signatures;
      statics = r.statics;
      low = r.low;
      constants = r.constants;
      active = r.active;
      in_use = r.in_use;
    }

pub copied_remains :
    (q p : Point) (last : ℕ) (ψ φ : Layer) (φs : List Layer) (x : Parameter) (z : ℤ) (w : Surroundings) →
    Stands w p → Remains q p → length q.state.activations < newest_height p.state.activations →
    Remains q (copied_at last ψ φ φs (copy_with x z) p)
copied_remains q p last ψ φ φs x z w stands r deep =
    remains_made q
    (layered (ψ ∷ with_waits (name_told last (p.state.serials + 1) x.number 1 φ.waits) φ ∷ φs) p)
    (copy_made_of ψ (copy_with x z))
    (remains_layered q p (ψ ∷ with_waits (name_told last (p.state.serials + 1) x.number 1 φ.waits) φ ∷ φs) r)
    (record {
      falling = stands.lives.falling;
      numbered = stands.lives.numbered;
      extents = stands.lives.extents;
    }) deep

pub bound_remains :
    {w : Surroundings} {code : List Instr} (words n list : ℕ) (xs : List Parameter) (ys : List Passing)
    (ψ φ : Layer) (φs : List Layer) (q p : Point) → Binds w code words n list xs ys ψ φ φs p → Remains q p →
    length q.state.activations < newest_height p.state.activations →
    Remains q (bound_all words xs ys ψ φ φs p)
bound_remains words n list [] ys ψ φ φs q p h r deep = r
bound_remains words n list (x ∷ xs) [] ψ φ φs q p h r deep = r
bound_remains {w} words n list (x ∷ xs) (PassesCopy z ∷ ys) ψ φ φs q p h r deep =
    let last = words + 6 * length ys in
    let same = same_height (binding_as x (p.state.serials + 1)) p.state.activations in
    bound_remains words (suc n) list xs ys (grown (copy_made_of ψ (copy_with x z)) ψ)
    (with_waits (name_told last (p.state.serials + 1) x.number 1 φ.waits) φ) φs q
    (copied_at last ψ φ φs (copy_with x z) p) (copy_next h)
    (copied_remains q p last ψ φ φs x z w h.stands r deep) (omega (arith, same, deep))
bound_remains words n list (x ∷ xs) (PassesName serial signature ∷ ys) ψ φ φs q p h r deep =
    let same = same_height (binding_as x serial) p.state.activations in
    bound_remains words (suc n) list xs ys ψ φ φs q (named_as x serial p) (name_next h)
    (remains_named q p x serial r) (omega (arith, same, deep))

-- ---- what it means

pub copied_means :
    (last : ℕ) (ψ φ : Layer) (φs : List Layer) (x : Parameter) (z : ℤ) (p : Point) (acts : ℕ) →
    nat_le (automatic_in_use p.state.living + copy_takes) most_automatic ≡ true →
    K.variable_made x.index (copy_generation (copy_with x z)) acts p.state
    ≡ Normal tt (copied_at last ψ φ φs (copy_with x z) p).state
unfolding K.variable_made looked choose stored ◌>>=◌
copied_means last ψ φ φs x z p acts limit =
    ap (λ q. cond q (Normal tt (with_variable x.index (copy_generation (copy_with x z)) p.state))
    (finish (E.Limit L.Automatic) acts p.state)) limit

pub bound_means :
    {w : Surroundings} {code : List Instr} (words n list : ℕ) (xs : List Parameter) (ys : List Passing)
    (ψ φ : Layer) (φs : List Layer) (p : Point) (acts : ℕ) → Binds w code words n list xs ys ψ φ φs p →
    IsWithin p ys →
    K.parameters_bound (indices_of xs) (all_passed ys) acts p.state
    ≡ Normal tt (bound_all words xs ys ψ φ φs p).state
unfolding K.parameters_bound K.parameter_bound give stored ◌>>=◌ ◌>>◌
bound_means words n list [] [] ψ φ φs p acts h few = refl
bound_means words n list [] (y ∷ ys) ψ φ φs p acts h few = absurd (let many = h.many in omega (arith, many))
bound_means words n list (x ∷ xs) [] ψ φ φs p acts h few = absurd (let many = h.many in omega (arith, many))
bound_means words n list (x ∷ xs) (PassesCopy z ∷ ys) ψ φ φs p acts h few =
    let last = words + 6 * length ys in
    ap (λ flow. flow_on acts flow (λ q. K.parameters_bound (indices_of xs) (all_passed ys)))
    (copied_means last ψ φ φs x z p acts (within_first (automatic_in_use p.state.living) (copies_in ys) few))
    ∙ bound_means words (suc n) list xs ys (grown (copy_made_of ψ (copy_with x z)) ψ)
    (with_waits (name_told last (p.state.serials + 1) x.number 1 φ.waits) φ) φs
    (copied_at last ψ φ φs (copy_with x z) p) acts (copy_next h) (within_next h few)
bound_means words n list (x ∷ xs) (PassesName serial signature ∷ ys) ψ φ φs p acts h few =
    bound_means words (suc n) list xs ys ψ φ φs (named_as x serial p) acts (name_next h) few
