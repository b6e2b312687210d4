-- The name of an area among the variables of a block: the words of the block's frame tell it from where it is made.
use Rattle.std.proofs.Common.{◌≡◌, ℕ, zero, suc, ◌+◌, ◌/◌, ◌^◌, ◌<◌, ◌≤◌, List, [], ◌∷◌, length, Option, None, Some}
use Rattle.std.proofs.Common.{true, false, refl, sym, ap, ◌∙◌, subst, arith}
use Rattle.std.specs.Prelude.{◌%◌, ◌==◌, Bool, cond, nat_lt, slice_get}
use Rattle.std.proofs.lemmas.Bool.{eq-eqb, lt-ltb}
use Rattle.pli_typing.specs.TypedTree as Y
use Rattle.pli_meaning.specs.BasicValues.{VariableName}
use Rattle.pli_meaning.specs.DeclaredShapes.{shape_of}
use Rattle.pli_meaning.specs.Making.{with_binding}
use Rattle.pli_meaning.specs.StorageState.{Activation, Binding, binding_of}
use Rattle.run_keeper.specs.RunKeeper.{run_keeper}
use Rattle.pli_coding.specs.Environments.{Environment}
use Rattle.pli_coding.specs.Frames.{frame_bytes}
use Rattle.storage_relation.proofs.Holders.{eqb-other}
use Rattle.activation_relation.specs.Layers.{Layer, Point}
use Rattle.activation_relation.specs.Points.{Surroundings}
use Rattle.program_runs.specs.Names.{name_told}
use Rattle.program_runs.specs.Variables.{Declared, generation_for}
use Rattle.variable_runs.specs.Lists.{all_made, behind_made, layer_after, layer_behind, told_if}
use Rattle.variable_runs.proofs.Lists.{Binds}
use Rattle.area_runs.specs.Allocations.{IsTold}
use Rattle.number_runs.specs.Areas.{held_from}
use Rattle.number_runs.specs.Based.{is_area, is_based}
use Rattle.number_runs.proofs.Areas.{area_frame}
use Rattle.number_runs.proofs.AreaWords.{held_before, held_cases}
use Rattle.number_runs.proofs.Based.{area_is}
use Rattle.number_runs.proofs.Words.{word_made}

-- ---- the words of a name

name_here : (place serial : ℕ) (told : ℕ → Option ℕ) → IsTold (name_told place serial told) place serial
name_here place serial told =
    record {
      kind = ap (λ q. cond q (Some 1) (name_at q)) (eq-eqb place place refl);
      second =
          first 4 (omega arith)
          ∙ ap (λ q. cond q (Some 0) (cond (place + 4 == place + 8) (Some (serial % 2 ^ 32))
          (cond (place + 4 == place + 12) (Some (serial / 2 ^ 32)) (told (place + 4)))))
          (eq-eqb (place + 4) (place + 4) refl);
      low =
          first 8 (omega arith)
          ∙ ap (λ q. cond q (Some 0) (cond (place + 8 == place + 8) (Some (serial % 2 ^ 32))
          (cond (place + 8 == place + 12) (Some (serial / 2 ^ 32)) (told (place + 8)))))
          (eqb-other (place + 8) (place + 4) (λ e. omega (arith, e)))
          ∙ ap (λ q. cond q (Some (serial % 2 ^ 32))
          (cond (place + 8 == place + 12) (Some (serial / 2 ^ 32)) (told (place + 8))))
          (eq-eqb (place + 8) (place + 8) refl);
      high =
          first 12 (omega arith)
          ∙ ap (λ q. cond q (Some 0) (cond (place + 12 == place + 8) (Some (serial % 2 ^ 32))
          (cond (place + 12 == place + 12) (Some (serial / 2 ^ 32)) (told (place + 12)))))
          (eqb-other (place + 12) (place + 4) (λ e. omega (arith, e)))
          ∙ ap (λ q. cond q (Some (serial % 2 ^ 32))
          (cond (place + 12 == place + 12) (Some (serial / 2 ^ 32)) (told (place + 12))))
          (eqb-other (place + 12) (place + 8) (λ e. omega (arith, e)))
          ∙ ap (λ q. cond q (Some (serial / 2 ^ 32)) (told (place + 12))) (eq-eqb (place + 12) (place + 12) refl);
    }
  where
    rest : (n : ℕ) → Option ℕ
    rest n =
        cond (n == place + 4) (Some 0)
        (cond (n == place + 8) (Some (serial % 2 ^ 32))
        (cond (n == place + 12) (Some (serial / 2 ^ 32)) (told n)))

    name_at : Bool → Option ℕ
    name_at q = rest place

    first : (j : ℕ) → 0 < j → name_told place serial told (place + j) ≡ rest (place + j)
    first j some =
        ap (λ q. cond q (Some 1) (rest (place + j))) (eqb-other (place + j) place (λ e. omega (arith, e, some)))

-- words before it are told as they were
name_above :
    (place serial : ℕ) (told : ℕ → Option ℕ) (n : ℕ) → n < place → name_told place serial told n ≡ told n
name_above place serial told n less =
    ap (λ q. cond q (Some 1) (cond (n == place + 4) (Some 0) (cond (n == place + 8) (Some (serial % 2 ^ 32))
    (cond (n == place + 12) (Some (serial / 2 ^ 32)) (told n)))))
    (eqb-other n place (λ e. omega (arith, e, less)))
    ∙ ap (λ q. cond q (Some 0) (cond (n == place + 8) (Some (serial % 2 ^ 32))
    (cond (n == place + 12) (Some (serial / 2 ^ 32)) (told n)))) (eqb-other n (place + 4) (λ e. omega (arith, e, less)))
    ∙ ap (λ q. cond q (Some (serial % 2 ^ 32)) (cond (n == place + 12) (Some (serial / 2 ^ 32)) (told n)))
    (eqb-other n (place + 8) (λ e. omega (arith, e, less)))
    ∙ ap (λ q. cond q (Some (serial / 2 ^ 32)) (told n)) (eqb-other n (place + 12) (λ e. omega (arith, e, less)))

if_above :
    (q : Bool) (place serial : ℕ) (told : ℕ → Option ℕ) (n : ℕ) → n < place →
    told_if q place serial told n ≡ told n
if_above false place serial told n less = refl
if_above true place serial told n less = name_above place serial told n less

still_told :
    (q : Bool) (place serial : ℕ) (told : ℕ → Option ℕ) (at named : ℕ) → at + 16 ≤ place → IsTold told at named →
    IsTold (told_if q place serial told) at named
still_told q place serial told at named less h =
    record {
      kind = if_above q place serial told at (omega (arith, less)) ∙ h.kind;
      second = if_above q place serial told (at + 4) (omega (arith, less)) ∙ h.second;
      low = if_above q place serial told (at + 8) (omega (arith, less)) ∙ h.low;
      high = if_above q place serial told (at + 12) (omega (arith, less)) ∙ h.high;
    }

-- ---- a variable of the newest activation whose name is told

pub record IsNamed (q : Point) (words : ℕ → Option ℕ) (a : Activation) (as' : List Activation) (d : Declared) : Type 0
  where
    pub serial : ℕ
    pub binds : Binds q a as'
    pub bound :
        binding_of binds.bindings d.index
        ≡ Some (record { variable = d.index; name = VariableName serial; shape = shape_of [] d.declared })
    pub told : IsTold words d.place serial
    pub few : serial < 2 ^ 64

abbrev binding_now : Point → Declared → Binding
binding_now p d =
    record { variable = d.index; name = VariableName (p.state.serials + 1); shape = (generation_for d).shape }

abbrev bound_now :
    (w : Surroundings) → (p : Point) → (φ : Layer) → (a : Activation) → (as' : List Activation) → (d : Declared) →
    Binds p a as' → Binds (behind_made w.parts φ d p) a as'
bound_now w p φ a as' d binds =
    record {
      bindings = binding_now p d ∷ binds.bindings;
      active = ap (λ us. with_binding (binding_now p d) us) binds.active;
    }

-- where it has just been made
named_new :
    (w : Surroundings) (p : Point) (φ : Layer) (a : Activation) (as' : List Activation) (d : Declared) →
    p.state.serials + 1 < 2 ^ 64 → Binds p a as' →
    IsNamed (behind_made w.parts φ d p) (layer_behind w.parts (p.state.serials + 1) φ d).told a as' d
named_new w p φ a as' d few binds =
    let serial = p.state.serials + 1 in
    record {
      serial = serial;
      binds = bound_now w p φ a as' d binds;
      bound =
          ap (λ t. cond t (Some (binding_now p d)) (binding_of binds.bindings d.index)) (eq-eqb d.index d.index refl);
      told = subst (λ q. IsTold (told_if q d.place serial φ.told) d.place serial) (sym (lt-ltb serial (2 ^ 64) few))
          (name_here d.place serial φ.told);
      few = few;
    }

-- it is told still where another has been made
named_still :
    (w : Surroundings) (p : Point) (φ : Layer) (a : Activation) (as' : List Activation) (d y : Declared) →
    d.index < y.index → d.place + 16 ≤ y.place → IsNamed p φ.told a as' d →
    IsNamed (behind_made w.parts φ y p) (layer_behind w.parts (p.state.serials + 1) φ y).told a as' d
named_still w p φ a as' d y less above h =
    let serial = p.state.serials + 1 in
    record {
      serial = h.serial;
      binds = bound_now w p φ a as' y h.binds;
      bound =
          ap (λ t. cond t (Some (binding_now p y)) (binding_of h.binds.bindings d.index))
          (eqb-other y.index d.index (λ e. omega (arith, e, less))) ∙ h.bound;
      told = still_told (nat_lt serial (2 ^ 64)) y.place serial φ.told d.place h.serial above h.told;
      few = h.few;
    }

named_kept :
    (w : Surroundings) (e : Environment) (p : Point) (φ : Layer) (a : Activation) (as' : List Activation)
    (d : Declared) (place index : ℕ) (ds : List Y.DeclaredVariable) → d.index < index → d.place + 16 ≤ place →
    IsNamed p φ.told a as' d →
    IsNamed (all_made w.parts φ (held_from e place index ds) p)
    (layer_after w.parts (p.state.serials + 1) φ (held_from e place index ds)).told a as' d
named_kept w e p φ a as' d place index [] less above h = h
named_kept w e p φ a as' d place index (u ∷ ds) less above h =
    let y = word_made e place index u in
    let rest = held_from e (place + frame_bytes e.parts u) (index + 1) ds in
    held_cases (λ xs. IsNamed (all_made w.parts φ xs p) (layer_after w.parts (p.state.serials + 1) φ xs).told a as' d)
    (is_based u) y rest
    (λ based.
    named_kept w e p φ a as' d (place + frame_bytes e.parts u) (index + 1) ds (omega (arith, less))
    (omega (arith, above)) h)
    (λ none.
    named_kept w e (behind_made w.parts φ y p) (layer_behind w.parts (p.state.serials + 1) φ y) a as' d
    (place + frame_bytes e.parts u) (index + 1) ds (omega (arith, less)) (omega (arith, above))
    (named_still w p φ a as' d y less above h))

-- an area's data stand behind its name
area_wide : (e : Environment) (d : Y.DeclaredVariable) → e.parts.area_bytes ≡ run_keeper.bytes_for → is_area d ≡ true →
    16 ≤ frame_bytes e.parts d
area_wide e d keeper h =
    let a = area_is d h in
    let holds = (area_frame e.parts a.bytes keeper a.few).holds in
    subst (λ u. 16 ≤ frame_bytes e.parts u) (sym a.is) (omega (arith, holds))

-- what is BASED is no area
area_held : (d : Y.DeclaredVariable) → is_area d ≡ true → is_based d ≡ false
area_held d h = let a = area_is d h in ap is_based a.is

pub named_each :
    (w : Surroundings) (e : Environment) (p : Point) (φ : Layer) (a : Activation) (as' : List Activation)
    (place index i : ℕ) (ds : List Y.DeclaredVariable) (d : Y.DeclaredVariable) →
    e.parts.area_bytes ≡ run_keeper.bytes_for → is_area d ≡ true → slice_get ds i ≡ Some d →
    p.state.serials + length ds < 2 ^ 64 → Binds p a as' →
    IsNamed (all_made w.parts φ (held_from e place index ds) p)
    (layer_after w.parts (p.state.serials + 1) φ (held_from e place index ds)).told a as'
    (word_made e (place + held_before e.parts ds i) (index + i) d)
named_each w e p φ a as' place index i [] d keeper area is few binds = absurd (cc is)
named_each w e p φ a as' place index zero (u ∷ ds) d keeper area is few binds =
    let same : u ≡ d = cc is in
    let y = word_made e place index d in
    let wide = area_wide e d keeper area in
    let at : place + 0 ≡ place = omega arith in
    let n : index + 0 ≡ index = omega arith in
    subst (λ v. IsNamed (all_made w.parts φ (held_from e place index (v ∷ ds)) p)
    (layer_after w.parts (p.state.serials + 1) φ (held_from e place index (v ∷ ds))).told a as'
    (word_made e (place + 0) (index + 0) d)) (sym same)
    (held_cases (λ xs. IsNamed (all_made w.parts φ xs p) (layer_after w.parts (p.state.serials + 1) φ xs).told a as'
    (word_made e (place + 0) (index + 0) d)) (is_based d) y
    (held_from e (place + frame_bytes e.parts d) (index + 1) ds)
    (λ based. absurd (cc (sym (area_held d area) ∙ based)))
    (λ none.
    subst (λ m. IsNamed (all_made w.parts φ (y ∷ held_from e (place + frame_bytes e.parts d) (index + 1) ds) p)
    (layer_after w.parts (p.state.serials + 1) φ
    (y ∷ held_from e (place + frame_bytes e.parts d) (index + 1) ds)).told a as' (word_made e m (index + 0) d)) (sym at)
    (subst (λ m. IsNamed (all_made w.parts φ (y ∷ held_from e (place + frame_bytes e.parts d) (index + 1) ds) p)
    (layer_after w.parts (p.state.serials + 1) φ
    (y ∷ held_from e (place + frame_bytes e.parts d) (index + 1) ds)).told a as' (word_made e place m d)) (sym n)
    (named_kept w e (behind_made w.parts φ y p) (layer_behind w.parts (p.state.serials + 1) φ y) a as' y
    (place + frame_bytes e.parts d) (index + 1) ds (omega arith) (omega (arith, wide))
    (named_new w p φ a as' y (omega (arith, few)) binds)))))
named_each w e p φ a as' place index (suc i) (u ∷ ds) d keeper area is few binds =
    let bytes = frame_bytes e.parts u in
    let before = held_before e.parts ds i in
    let y = word_made e place index u in
    let rest = held_from e (place + bytes) (index + 1) ds in
    let at : place + bytes + before ≡ place + (bytes + before) = omega arith in
    let n : index + 1 + i ≡ index + suc i = omega arith in
    held_cases (λ xs. IsNamed (all_made w.parts φ xs p) (layer_after w.parts (p.state.serials + 1) φ xs).told a as'
    (word_made e (place + (bytes + before)) (index + suc i) d)) (is_based u) y rest
    (λ based.
    subst (λ m. IsNamed (all_made w.parts φ rest p) (layer_after w.parts (p.state.serials + 1) φ rest).told a as'
    (word_made e m (index + suc i) d)) at
    (subst (λ m. IsNamed (all_made w.parts φ rest p) (layer_after w.parts (p.state.serials + 1) φ rest).told a as'
    (word_made e (place + bytes + before) m d)) n
    (named_each w e p φ a as' (place + bytes) (index + 1) i ds d keeper area is (omega (arith, few)) binds)))
    (λ none.
    subst (λ m. IsNamed (all_made w.parts φ (y ∷ rest) p)
    (layer_after w.parts (p.state.serials + 1) φ (y ∷ rest)).told a as' (word_made e m (index + suc i) d)) at
    (subst (λ m. IsNamed (all_made w.parts φ (y ∷ rest) p)
    (layer_after w.parts (p.state.serials + 1) φ (y ∷ rest)).told a as' (word_made e (place + bytes + before) m d)) n
    (named_each w e (behind_made w.parts φ y p) (layer_behind w.parts (p.state.serials + 1) φ y) a as' (place + bytes)
    (index + 1) i ds d keeper area is (serial_later p.state.serials (length ds) few) (bound_now w p φ a as' y binds))))
  where
    serial_later : (serials count : ℕ) → serials + suc count < 2 ^ 64 → serials + 1 + count < 2 ^ 64
    serial_later serials count h = omega (arith, h)
