-- A procedure makes its variables, areas among them, and each is known in its block, whatever it is.
use Rattle.std.proofs.Common.{◌≡◌, ℕ, ◌+◌, List, [], ◌∷◌, length, Option, None, Some, true}
use Rattle.std.proofs.Common.{false, refl, sym, ap, ◌∙◌, subst, arith}
use Rattle.std.specs.Prelude.{◌==◌, cond, slice_get}
use Rattle.std.proofs.lemmas.Bool.{eq-eqb}
use Rattle.rv_meaning.specs.declared.instr.Instr.{Instr}
use Rattle.pli_typing.specs.TypedTree as Y
use Rattle.pli_meaning.specs.BasicValues.{BasedName, Name, NullName, VariableName}
use Rattle.pli_meaning.specs.DeclaredShapes.{declared_variable, shape_of, variables_of_block}
use Rattle.pli_meaning.specs.Executing as M
use Rattle.pli_meaning.specs.StorageState.{Activation, Binding, ancestor, area_of_leaves, binding_in, binding_of}
use Rattle.pli_meaning.specs.StorageState.{newest_height}
use Rattle.run_keeper.specs.RunKeeper.{run_keeper}
use Rattle.pli_coding.specs.Environments.{Environment}
use Rattle.pli_coding.specs.Frames.{automatic_place, fixed_size, parameters_of_block, variable_place}
use Rattle.activation_relation.specs.Layers.{Layer, Point}
use Rattle.activation_relation.specs.Points.{Surroundings}
use Rattle.block_runs.specs.Machines.{HasParts}
use Rattle.program_runs.specs.Calls.{Callee, begun_at, block_at}
use Rattle.program_runs.specs.Procedures.{beginning_for, layer_for}
use Rattle.program_runs.specs.Statements.{IsBegun}
use Rattle.expression_runs.specs.Variables.{IsNumber, Spot, number_declared, variable_of}
use Rattle.array_runs.specs.Arrays.{IsArray}
use Rattle.scalar_runs.specs.Scalars.{IsScalar}
use Rattle.variable_runs.specs.Known.{IsKnown, IsOwn, place_of}
use Rattle.variable_runs.specs.Lists.{Among, AreAllBegun, AreThose, all_made, layer_after}
use Rattle.variable_runs.proofs.Known.{known_begun, known_number}
use Rattle.variable_runs.proofs.Lists.{layers_after}
use Rattle.area_runs.specs.Allocations.{HasArea, IsTold}
use Rattle.area_runs.specs.Based.{pointer_declared}
use Rattle.number_runs.specs.Areas.{HasAreas, IsOwnArea, IsOwnPointer, held_bytes, held_in}
use Rattle.number_runs.specs.Arrays.{is_array}
use Rattle.number_runs.specs.Based.{is_area, is_area_if, is_based, is_pointer_if}
use Rattle.number_runs.specs.Narrow.{is_narrow}
use Rattle.number_runs.specs.Variables.{HaveRoom, IsOwnArray, IsOwnNarrow, IsOwnWord, own_grid, own_type}
use Rattle.number_runs.proofs.Areas.{capacity_in}
use Rattle.number_runs.proofs.AreaNames.{IsNamed, named_each}
use Rattle.number_runs.proofs.AreaWords.{held_among, held_before, held_coded, held_declared, held_few, held_listed}
use Rattle.number_runs.proofs.AreaWords.{held_places, held_those}
use Rattle.number_runs.proofs.Arrays.{array_is}
use Rattle.number_runs.proofs.Based.{IsAreaOf, area_is, pointer_is}
use Rattle.number_runs.proofs.Narrow.{narrow_is}
use Rattle.number_runs.proofs.Words.{array_known, found, found_array, found_narrow, narrow_known, slice_less, word_made}

pub all_held :
    (w : Surroundings) (code : List Instr) (c : Callee) (p : Point) (numbers : ℕ → ℕ) → HasAreas w code c p numbers →
    AreAllBegun w code c p numbers (held_in c.environment)
all_held w code c p numbers h =
    let e = c.environment in
    let ds = variables_of_block e.program e.block in
    let first = fixed_size e.level 0 in
    let keeper = ap (λ parts. parts.area_bytes) h.parts ∙ h.keeper in
    let at = held_places e.parts first ds h.room.counted in
    let start : fixed_size e.level (length (parameters_of_block e.program e.block)) ≡ first =
    ap (λ (ns : List ℕ). fixed_size e.level (length ns)) h.bare in
    let few = held_few e first 0 ds in
    let most = h.few in
    record {
      kind = h.kind;
      those =
          subst (λ us. AreThose 0 (held_in e) us)
          (ap (λ q. variables_of_block q e.block) (sym h.program)
          ∙ ap (λ n. variables_of_block c.around.program n) h.block)
          (held_those e first 0 ds);
      listed = held_listed e first 0 ds keeper h.any;
      code =
          h.coded
          ∙ held_coded e c.procedure.head.line first 0 ds keeper h.any
          (λ i less.
          ap (λ n. variable_place e.parts n ds (0 + i)) start
          ∙ ap (λ n. variable_place e.parts first ds n) (omega arith)
          ∙ at i less);
      made = h.made;
      parts = h.parts;
      few = omega (arith, few, most);
      declared =
          held_declared w code (begun_at w c p numbers) (layer_for w p numbers c.procedure c.calling) p.control.layers e
          first 0 ds h.parts h.keeper h.any h.tabled h.begin h.serials
          (subst (λ parts. HaveRoom w (begun_at w c p numbers) (layer_for w p numbers c.procedure c.calling)
          p.control.layers first (held_bytes parts ds)) h.parts h.room);
    }

-- each of them stands where code looks for it
pub held_place :
    (w : Surroundings) (code : List Instr) (c : Callee) (p : Point) (numbers : ℕ → ℕ) (x : Spot)
    (d : Y.DeclaredVariable) → HasAreas w code c p numbers →
    (x.block ≡ c.environment.block) × (x.level ≡ c.environment.level) → is_based d ≡ false →
    declared_variable c.environment.program (variable_of x) ≡ Some d →
    IsOwn c
    (word_made c.environment
    (fixed_size c.environment.level 0
    + held_before c.environment.parts (variables_of_block c.environment.program c.environment.block) x.index)
    (0 + x.index) d) x
    × Among
    (word_made c.environment
    (fixed_size c.environment.level 0
    + held_before c.environment.parts (variables_of_block c.environment.program c.environment.block) x.index)
    (0 + x.index) d) (held_in c.environment)
held_place w code c p numbers x d h own none is =
    let e = c.environment in
    let ds = variables_of_block e.program e.block in
    let first = fixed_size e.level 0 in
    let there = ap (λ n. slice_get (variables_of_block e.program n) x.index) (sym own.0) ∙ is in
    let less = slice_less ds x.index d there in
    let at = held_places e.parts first ds h.room.counted in
    let start : fixed_size e.level (length (parameters_of_block e.program e.block)) ≡ first =
    ap (λ (ns : List ℕ). fixed_size e.level (length ns)) h.bare in (
      record {
        declared = is;
        index = omega arith;
        level = own.1 ∙ h.level;
        own = h.level;
        place =
            ap (λ n. automatic_place e.parts e.program n x.level x.index) own.0
            ∙ ap (λ n. automatic_place e.parts e.program e.block n x.index) own.1
            ∙ ap (λ n. variable_place e.parts n ds x.index) start ∙ at x.index less;
      },
      held_among e first 0 x.index ds d there none,
    )

-- and is known in the block
pub held_known :
    (w : Surroundings) (code : List Instr) (c : Callee) (p : Point) (numbers : ℕ → ℕ) (x : Spot)
    (d : Y.DeclaredVariable) → HasParts w.parts → HasAreas w code c p numbers →
    (x.block ≡ c.environment.block) × (x.level ≡ c.environment.level) → is_based d ≡ false →
    declared_variable c.environment.program (variable_of x) ≡ Some d → IsBegun (block_at w code c p numbers) →
    IsKnown (block_at w code c p numbers) x d
held_known w code c p numbers x d parts h own none is b =
    let e = c.environment in
    let ds = variables_of_block e.program e.block in
    let o = held_place w code c p numbers x d h own none is in
    known_begun w code c p numbers (held_in e)
    (word_made e (fixed_size e.level 0 + held_before e.parts ds x.index) (0 + x.index) d) x parts
    (all_held w code c p numbers h) o.1 o.0 b

-- ---- as what they are

pub held_word :
    (w : Surroundings) (code : List Instr) (c : Callee) (p : Point) (numbers : ℕ → ℕ) (x : Spot) →
    HasParts w.parts → HasAreas w code c p numbers → IsOwnWord c x → IsBegun (block_at w code c p numbers) →
    IsNumber (block_at w code c p numbers) x
held_word w code c p numbers x parts h own b =
    let there = found (declared_variable c.environment.program (variable_of x)) own.plain in
    known_number (block_at w code c p numbers) x there.initial
    (held_known w code c p numbers x (number_declared there.initial) parts h (own.block, own.level) refl there.is b)

array_other : (d : Y.DeclaredVariable) → is_array d ≡ true → is_based d ≡ false
array_other d h = ap is_based (array_is d h)

narrow_other : (d : Y.DeclaredVariable) → is_narrow d ≡ true → is_based d ≡ false
narrow_other d h = ap is_based (narrow_is d h)

area_other : (d : Y.DeclaredVariable) → is_area d ≡ true → is_based d ≡ false
area_other d h = let a = area_is d h in ap is_based a.is

pub held_array :
    (w : Surroundings) (code : List Instr) (c : Callee) (p : Point) (numbers : ℕ → ℕ) (x : Spot) →
    HasParts w.parts → HasAreas w code c p numbers → IsOwnArray c x → IsBegun (block_at w code c p numbers) →
    IsArray (block_at w code c p numbers) x (own_grid c x)
held_array w code c p numbers x parts h own b =
    let o = declared_variable c.environment.program (variable_of x) in
    let there = found_array o own.array in
    array_known (block_at w code c p numbers) x o there
    (held_known w code c p numbers x there.declared parts h (own.block, own.level)
    (array_other there.declared there.array) there.is b)

pub held_narrow :
    (w : Surroundings) (code : List Instr) (c : Callee) (p : Point) (numbers : ℕ → ℕ) (x : Spot) →
    HasParts w.parts → HasAreas w code c p numbers → IsOwnNarrow c x → IsBegun (block_at w code c p numbers) →
    IsScalar (block_at w code c p numbers) x (own_type c x)
held_narrow w code c p numbers x parts h own b =
    let o = declared_variable c.environment.program (variable_of x) in
    let there = found_narrow o own.narrow in
    narrow_known (block_at w code c p numbers) x o there
    (held_known w code c p numbers x there.declared parts h (own.block, own.level)
    (narrow_other there.declared there.narrow) there.is b)

record FoundPointer (o : Option Y.DeclaredVariable) : Type 0 where
  is : o ≡ Some pointer_declared

found_pointer : (o : Option Y.DeclaredVariable) → is_pointer_if o ≡ true → FoundPointer o
found_pointer None h = absurd (cc h)
found_pointer (Some d) h = record { is = ap (λ d'. Some d') (pointer_is d h) }

pub held_pointer :
    (w : Surroundings) (code : List Instr) (c : Callee) (p : Point) (numbers : ℕ → ℕ) (x : Spot) →
    HasParts w.parts → HasAreas w code c p numbers → IsOwnPointer c x → IsBegun (block_at w code c p numbers) →
    IsKnown (block_at w code c p numbers) x pointer_declared
held_pointer w code c p numbers x parts h own b =
    let there = found_pointer (declared_variable c.environment.program (variable_of x)) own.pointer in
    held_known w code c p numbers x pointer_declared parts h (own.block, own.level) refl there.is b

record FoundArea (o : Option Y.DeclaredVariable) : Type 0 where
  declared : Y.DeclaredVariable
  is : o ≡ Some declared
  area : is_area declared ≡ true

found_area : (o : Option Y.DeclaredVariable) → is_area_if o ≡ true → FoundArea o
found_area None h = absurd (cc h)
found_area (Some d) h = record { declared = d; is = refl; area = h }

-- the newest activation's own
newest_bound :
    (a : Activation) (as' : List Activation) (bindings : List Binding) (level index : ℕ) → level ≡ a.level →
    binding_in (ancestor (record a { bindings = bindings } ∷ as') a.height level) index ≡ binding_of bindings index
newest_bound a as' bindings level index own =
    let new : Activation = record a { bindings = bindings } in
    let rest = ancestor as' a.parent level in
    ap (λ t. binding_in (cond t (cond (a.level == level) (Some new) rest) (ancestor as' a.height level)) index)
    (eq-eqb a.height a.height refl)
    ∙ ap (λ t. binding_in (cond t (Some new) rest) index) (eq-eqb a.level level (sym own))

serial_of : Name → ℕ
serial_of NullName = 0
serial_of (VariableName serial) = serial
serial_of (BasedName area offset) = 0

serial_in : Option Binding → ℕ
serial_in None = 0
serial_in (Some b) = serial_of b.name

-- its frame tells its name
pub held_area :
    (w : Surroundings) (code : List Instr) (c : Callee) (p : Point) (numbers : ℕ → ℕ) (x : Spot) →
    HasParts w.parts → HasAreas w code c p numbers → IsOwnArea c x → IsBegun (block_at w code c p numbers) →
    HasArea (block_at w code c p numbers) x
unfolding serial_in serial_of
held_area w code c p numbers x parts h own b =
    let known = held_known w code c p numbers x d parts h (own.block, own.level) (area_other d there.area) there.is b in
    let bound : binding_in (ancestor q.state.activations (newest_height q.state.activations) x.level) x.index
    ≡ Some (record { variable = 0 + x.index; name = VariableName named.serial; shape = _ }) =
    ap (λ as'. binding_in (ancestor as' (newest_height as') x.level) x.index) named.binds.active
    ∙ newest_bound a p.state.activations named.binds.bindings x.level x.index (own.level ∙ h.level)
    ∙ ap (λ n. binding_of named.binds.bindings n) index ∙ named.bound in
    let before : binding_in (ancestor q.state.activations (newest_height q.state.activations) x.level) x.index
    ≡ Some _ = ap (λ (u : Point). binding_in (ancestor u.state.activations (newest_height u.state.activations) x.level)
    x.index) (sym here) ∙ known.binding in
    let same : known.serial ≡ named.serial = ap serial_in (sym before ∙ bound) in
    let few = named.few in
    record {
      declared = d;
      known = known;
      own = eq-eqb x.level c.environment.level own.level;
      capacity = capacity_in area.bytes;
      area = ap (λ u. area_of_leaves (shape_of [] u).signature.leaves []) area.is;
      layer = layer_after w.parts (start.state.serials + 1) φ (held_in e);
      others = p.control.layers;
      layers =
          ap (λ (u : Point). u.control.layers) here
          ∙ layers_after w start φ p.control.layers (held_in e) refl;
      told =
          subst (λ n. IsTold (layer_after w.parts (start.state.serials + 1) φ (held_in e)).told n known.serial)
          (sym place)
          (subst (λ n. IsTold (layer_after w.parts (start.state.serials + 1) φ (held_in e)).told
          (first + held_before e.parts ds x.index) n) (sym same) named.told);
      few = omega (arith, same, few);
    }
  where
    e : Environment
    e = c.environment

    ds : List Y.DeclaredVariable
    ds = variables_of_block e.program e.block

    first : ℕ
    first = fixed_size e.level 0

    start : Point
    start = begun_at w c p numbers

    φ : Layer
    φ = layer_for w p numbers c.procedure c.calling

    a : Activation
    a = M.activation_of (beginning_for w p numbers c.procedure c.calling).head
        (beginning_for w p numbers c.procedure c.calling).entry (length p.state.activations + 1)

    there : FoundArea (declared_variable c.environment.program (variable_of x))
    there = found_area (declared_variable c.environment.program (variable_of x)) own.area

    d : Y.DeclaredVariable
    d = there.declared

    area : IsAreaOf d
    area = area_is d there.area

    q : Point
    q = all_made w.parts φ (held_in e) start

    here : c.made start ≡ q
    here = ap (λ (made : Point → Point). made start) h.made

    keeper : e.parts.area_bytes ≡ run_keeper.bytes_for
    keeper = ap (λ parts. parts.area_bytes) h.parts ∙ h.keeper

    found_at : slice_get ds x.index ≡ Some d
    found_at = ap (λ n. slice_get (variables_of_block e.program n) x.index) (sym own.block) ∙ there.is

    named : IsNamed q (layer_after w.parts (start.state.serials + 1) φ (held_in e)).told a p.state.activations
        (word_made e (first + held_before e.parts ds x.index) (0 + x.index) d)
    named =
        named_each w e start φ a p.state.activations first 0 x.index ds d keeper there.area found_at h.serials
        (record { bindings = []; active = refl })

    index : x.index ≡ 0 + x.index
    index = omega arith

    place : place_of e x ≡ first + held_before e.parts ds x.index
    place =
        ap (λ n. automatic_place e.parts e.program n x.level x.index) own.block
        ∙ ap (λ n. automatic_place e.parts e.program e.block n x.index) own.level
        ∙ ap (λ n. variable_place e.parts n ds x.index)
        (ap (λ (ns : List ℕ). fixed_size e.level (length ns)) h.bare)
        ∙ held_places e.parts first ds h.room.counted x.index (slice_less ds x.index d found_at)
