-- Variables that are made one behind the other: a procedure makes all that it declares.
use Rattle.std.proofs.Common.{◌≡◌, ℕ, ◌+◌, ◌^◌, ◌<◌, ◌≤◌, inl, inr, List, [], ◌∷◌, length, Some, false, refl}
use Rattle.std.proofs.Common.{sym, ap, ◌∙◌, subst, arith}
use Rattle.std.specs.Prelude.{Bool, nat_lt, pos, true}
use Rattle.std.proofs.lemmas.Bool.{lt-ltb, ltb-true}
use Rattle.rv_meaning.specs.declared.instr.Instr.{Instr}
use Rattle.pli_typing.specs.TypedTree as Y
use Rattle.pli_meaning.specs.BasicValues.{VariableName}
use Rattle.pli_meaning.specs.Contents.{fresh}
use Rattle.pli_meaning.specs.Control.{Normal, flow_on, give, ◌>>=◌, ◌>>◌}
use Rattle.pli_meaning.specs.DeclaredShapes.{initial_of, shape_of, variables_of_block}
use Rattle.pli_meaning.specs.Executing as M
use Rattle.pli_meaning.specs.Making as K
use Rattle.pli_meaning.specs.Making.{with_binding}
use Rattle.pli_meaning.specs.Raising.{Around, at_line}
use Rattle.pli_meaning.specs.StorageState.{Activation, Binding, State, newest_height}
use Rattle.pli_serving.specs.ServiceState.{Services}
use Rattle.pli_serving.specs.Templates.{shape_at}
use Rattle.pli_coding.specs.Assembly.{size_of}
use Rattle.pli_coding.specs.Entries.{constant_made}
use Rattle.pli_coding.specs.Environments.{Environment}
use Rattle.pli_coding.specs.Frames.{MemoryParts, is_automatic}
use Rattle.pli_coding.specs.Locating.{table_number}
use Rattle.storage_relation.specs.Stored.{Lives}
use Rattle.storage_relation.proofs.Living.{lives_added}
use Rattle.activation_relation.specs.Landing.{Changed, resumed}
use Rattle.activation_relation.specs.Layers.{Layer, Point, services_of}
use Rattle.activation_relation.specs.Points.{Stands, Surroundings}
use Rattle.activation_relation.specs.Remaining.{Remains}
use Rattle.activation_relation.specs.Variables.{Made, grown, newest_grown, with_made}
use Rattle.activation_relation.proofs.Remaining.{remains_entered, remains_made}
use Rattle.run_steps.specs.Items.{Linked}
use Rattle.run_steps.specs.Reach.{Family, Reach, reached}
use Rattle.run_steps.proofs.Jumps.{back_of, front_of}
use Rattle.run_steps.proofs.Linking.{size_append}
use Rattle.run_steps.proofs.Reach.{reach_then, reached_holds, stay}
use Rattle.block_runs.specs.Machines.{AreIn, IsImage, IsIn}
use Rattle.program_runs.specs.Calls.{AreMade, Callee, act_index, begun_at, variables_index}
use Rattle.program_runs.specs.Procedures.{beginning_for, layer_for}
use Rattle.program_runs.specs.Initial.{MayBeMade}
use Rattle.program_runs.specs.Variables.{Declared, generation_for, made_of}
use Rattle.program_runs.proofs.Names.{begun_comes, begun_stands}
use Rattle.program_runs.proofs.Variables.{made_becomes, started_comes, started_means, without_initial}
use Rattle.variable_runs.specs.Areas.{IsArea}
use Rattle.variable_runs.specs.Lists.{AllMayBegin, AreAll, AreAllBegun, AreDeclared, AreListed, AreThose, Declares}
use Rattle.variable_runs.specs.Lists.{MayBegin, all_made, behind_made}
use Rattle.variable_runs.specs.Lists.{layer_after, layer_behind, made_code, made_now, told_if}
use Rattle.variable_runs.proofs.AreaMemory as A
use Rattle.variable_runs.proofs.AreaVariables.{area_comes, area_means}

-- ---- one of them

-- what is told then, by whether its serial number has two words
pub now_is :
    (w : Surroundings) (p : Point) (x : Declared) (φ : Layer) (q : Bool) → nat_lt (p.state.serials + 1) (2 ^ 64) ≡ q →
    with_made (record (made_of w.parts φ x) { told = told_if q x.place (p.state.serials + 1) φ.told }) p
    ≡ behind_made w.parts φ x p
now_is w p x φ q e =
    ap (λ t. with_made (record (made_of w.parts φ x) { told = told_if t x.place (p.state.serials + 1) φ.told }) p)
    (sym e)

-- that of an area has
area_few :
    {w : Surroundings} {p : Point} {x : Declared} {φ : Layer} {φs : List Layer} → IsArea w p x φ φs →
    nat_lt (p.state.serials + 1) (2 ^ 64) ≡ true
area_few is = lt-ltb _ (2 ^ 64) is.serial

pub next_stands :
    (w : Surroundings) (code : List Instr) (p : Point) (x : Declared) (φ : Layer) (φs : List Layer) →
    Stands w p × IsImage w code p → MayBegin w code p x φ φs →
    Stands w (behind_made w.parts φ x p) × IsImage w code (behind_made w.parts φ x p)
next_stands w code p x φ φs known (inl is) = by (nat_lt (p.state.serials + 1) (2 ^ 64)) refl
  where
    by :
        (q : Bool) → nat_lt (p.state.serials + 1) (2 ^ 64) ≡ q →
        Stands w (behind_made w.parts φ x p) × IsImage w code (behind_made w.parts φ x p)
    by true e =
        subst (λ q. Stands w q × IsImage w code q) (now_is w p x φ true e) (begun_stands w code p x φ φs known is)
    by false e =
        subst (λ q. Stands w q × IsImage w code q) (now_is w p x φ false e)
        (made_becomes (record { stands = known.0; image = known.1; is = is })).stands
next_stands w code p x φ φs known (inr is) =
    subst (λ q. Stands w q × IsImage w code q) (now_is w p x φ true (area_few is))
    (A.made_stands (record { stands = known.0; image = known.1; is = is }))

pub next_comes :
    (w : Surroundings) (code : List Instr) (e : Environment) (p : Point) (numbers : ℕ → ℕ) (x : Declared) (φ : Layer)
    (φs : List Layer) (c index : ℕ) (f : Family) → Stands w p × IsImage w code p → MayBegin w code p x φ φs →
    (table_number e x.declared ≡ x.number) × (e.parts ≡ w.parts) →
    Linked w.links code index (constant_made e x.place x.declared) → AreIn w p numbers index f →
    Reach code c f (services_of p) (c + size_of (constant_made e x.place x.declared))
    (services_of (behind_made w.parts φ x p))
    (λ b y. IsIn w (behind_made w.parts φ x p) numbers (index + size_of (constant_made e x.place x.declared)) b y)
next_comes w code e p numbers x φ φs c index f known (inl is) same l there =
    by (nat_lt (p.state.serials + 1) (2 ^ 64)) refl
  where
    by :
        (q : Bool) → nat_lt (p.state.serials + 1) (2 ^ 64) ≡ q →
        Reach code c f (services_of p) (c + size_of (constant_made e x.place x.declared))
        (services_of (behind_made w.parts φ x p))
        (λ b y. IsIn w (behind_made w.parts φ x p) numbers (index + size_of (constant_made e x.place x.declared)) b y)
    by true e' =
        subst (λ q. Reach code c f (services_of p) (c + size_of (constant_made e x.place x.declared)) (services_of q)
        (λ b y. IsIn w q numbers (index + size_of (constant_made e x.place x.declared)) b y)) (now_is w p x φ true e')
        (begun_comes w code e p numbers x φ φs c index f known is (ltb-true _ (2 ^ 64) e') same l there)
    by false e' =
        subst (λ q. Reach code c f (services_of p) (c + size_of (constant_made e x.place x.declared)) (services_of q)
        (λ b y. IsIn w q numbers (index + size_of (constant_made e x.place x.declared)) b y)) (now_is w p x φ false e')
        (started_comes w code e p numbers x φ φs c index f known is same l there)
next_comes w code e p numbers x φ φs c index f known (inr is) same l there =
    subst (λ q. Reach code c f (services_of p) (c + size_of (constant_made e x.place x.declared)) (services_of q)
    (λ b y. IsIn w q numbers (index + size_of (constant_made e x.place x.declared)) b y))
    (now_is w p x φ true (area_few is))
    (area_comes w code e p numbers x φ φs c index f known is same l there)

pub next_means :
    (w : Surroundings) (code : List Instr) (p : Point) (x : Declared) (φ : Layer) (φs : List Layer) (acts : ℕ) →
    MayBegin w code p x φ φs →
    K.variable_made x.index (generation_for x) acts p.state ≡ Normal tt (behind_made w.parts φ x p).state
next_means w code p x φ φs acts (inl is) = started_means w code p x φ φs acts is
next_means w code p x φ φs acts (inr is) = area_means w p x φ φs acts is

next_shape :
    (w : Surroundings) (code : List Instr) (p : Point) (x : Declared) (φ : Layer) (φs : List Layer) →
    MayBegin w code p x φ φs → shape_at p.places.signatures x.number ≡ Some (shape_of [] x.declared)
next_shape w code p x φ φs (inl is) = is.shape
next_shape w code p x φ φs (inr is) = is.shape

-- the newest block's layer, once it has been made
pub next_layers :
    (w : Surroundings) (p : Point) (x : Declared) (φ : Layer) (φs : List Layer) → p.control.layers ≡ φ ∷ φs →
    (behind_made w.parts φ x p).control.layers ≡ layer_behind w.parts (p.state.serials + 1) φ x ∷ φs
next_layers w p x φ φs newest = ap (λ ls. newest_grown (made_now w.parts (p.state.serials + 1) φ x) ls) newest

next_lives :
    (w : Surroundings) (code : List Instr) (p : Point) (x : Declared) (φ : Layer) (φs : List Layer) →
    MayBegin w code p x φ φs →
    Lives p.places p.state → Lives (behind_made w.parts φ x p).places (behind_made w.parts φ x p).state
next_lives w code p x φ φs is lives =
    let l = K.living_at (p.state.serials + 1) (newest_height p.state.activations) (generation_for x) in
    let h = lives_added p.places p.state l (made_of w.parts φ x).place x.number refl refl
    (next_shape w code p x φ φs is) lives in
    record { falling = h.falling; numbered = h.numbered; extents = h.extents }

-- ---- all of them

pub all_stand :
    (w : Surroundings) (code : List Instr) (p : Point) (φ : Layer) (φs : List Layer) (xs : List Declared) →
    AllMayBegin w code p φ φs xs → Stands w p × IsImage w code p →
    Stands w (all_made w.parts φ xs p) × IsImage w code (all_made w.parts φ xs p)
all_stand w code p φ φs [] are known = known
all_stand w code p φ φs (x ∷ xs) are known =
    all_stand w code (behind_made w.parts φ x p) (layer_behind w.parts (p.state.serials + 1) φ x) φs xs are.1
    (next_stands w code p x φ φs known are.0)

-- counts of credits and indices that are the same
moved_in :
    {w : Surroundings} {code : List Instr} {numbers : ℕ → ℕ} {k c c' i i' : ℕ} {f : Family} {v : Services}
    (q : Point) → c ≡ c' → i ≡ i' → Reach code k f v c (services_of q) (λ b y. IsIn w q numbers i b y) →
    Reach code k f v c' (services_of q) (λ b y. IsIn w q numbers i' b y)
moved_in {w} {code} {numbers} {k} {c} {c'} {i} {i'} {f} {v} q credits index r =
    subst (λ n. Reach code k f v n (services_of q) (λ b y. IsIn w q numbers i' b y)) credits
    (subst (λ n. Reach code k f v c (services_of q) (λ b y. IsIn w q numbers n b y)) index r)

pub all_come :
    (w : Surroundings) (code : List Instr) (e : Environment) (p : Point) (numbers : ℕ → ℕ) (φ : Layer)
    (φs : List Layer) (xs : List Declared) (n c index : ℕ) (f : Family) → AllMayBegin w code p φ φs xs →
    AreListed e n xs → e.parts ≡ w.parts → Stands w p × IsImage w code p →
    Linked w.links code index (made_code e xs) → AreIn w p numbers index f →
    Reach code c f (services_of p) (c + size_of (made_code e xs)) (services_of (all_made w.parts φ xs p))
    (λ b y. IsIn w (all_made w.parts φ xs p) numbers (index + size_of (made_code e xs)) b y)
all_come w code e p numbers φ φs [] n c index f are listed parts known l there =
    moved_in p (omega arith) (omega arith) (stay code c f (services_of p) (λ b y. IsIn w p numbers index b y) there)
all_come w code e p numbers φ φs (x ∷ xs) n c index f are listed parts known l there =
    let first = constant_made e x.place x.declared in
    let rest = made_code e xs in
    let size = size_append first rest in
    let q = behind_made w.parts φ x p in
    let r1 = next_comes w code e p numbers x φ φs c index f known are.0 (listed.0.table, parts)
    (front_of first rest l) there in
    let r2 = all_come w code e q numbers (layer_behind w.parts (p.state.serials + 1) φ x) φs xs (x.index + 1)
    (c + size_of first) (index + size_of first) (reached r1)
    are.1 listed.1 parts (next_stands w code p x φ φs known are.0)
    (back_of first rest l) (reached_holds r1) in
    moved_in (all_made w.parts (layer_behind w.parts (p.state.serials + 1) φ x) xs q) (omega (arith, size))
    (omega (arith, size))
    (reach_then r1 r2)

-- ---- what they mean

-- what isn't AUTOMATIC isn't made here
unmade :
    (around : Around) (n acts : ℕ) (d : Y.DeclaredVariable) (c : Y.StorageClass) (s : State) →
    is_automatic c ≡ false → K.automatic_made around n d c acts s ≡ Normal tt s
unfolding K.automatic_made give
unmade around n acts d Y.AutomaticClass s e = absurd (cc e)
unmade around n acts d Y.StaticClass s e = refl
unmade around n acts d Y.ParameterClass s e = refl
unmade around n acts d Y.BasedClass s e = refl
unmade around n acts d Y.ControlledClass s e = refl

pub all_mean :
    (around : Around) (w : Surroundings) (code : List Instr) (e : Environment) (p : Point) (φ : Layer) (φs : List Layer)
    (xs : List Declared) (ds : List Y.DeclaredVariable) (n m acts : ℕ) → AllMayBegin w code p φ φs xs →
    AreListed e m xs →
    AreThose n xs ds → K.variables_made around n ds acts p.state ≡ Normal tt (all_made w.parts φ xs p).state
unfolding K.variables_made K.automatic_made K.extents give ◌>>=◌ ◌>>◌
all_mean around w code e p φ φs [] [] n m acts are listed those = refl
all_mean around w code e p φ φs (x ∷ xs) [] n m acts are listed those = absurd those
all_mean around w code e p φ φs [] (d ∷ ds) n m acts are listed those =
    ap (λ flow. flow_on acts flow (λ u. K.variables_made around (n + 1) ds))
    (unmade around n acts d d.class p.state those.0)
    ∙ all_mean around w code e p φ φs [] ds (n + 1) m acts are listed those.1
all_mean around w code e p φ φs (x ∷ xs) (d ∷ ds) n m acts are listed (inr those) =
    ap (λ flow. flow_on acts flow (λ u. K.variables_made around (n + 1) ds))
    (unmade around n acts d d.class p.state those.0)
    ∙ all_mean around w code e p φ φs (x ∷ xs) ds (n + 1) m acts are listed those.1
all_mean around w code e p φ φs (x ∷ xs) (d' ∷ ds) n m acts are listed (inl those) =
    let d = x.declared in
    let s = p.state in
    let q = behind_made w.parts φ x p in
    let made : K.variable_made n (generation_for x) acts s ≡ Normal tt q.state =
    ap (λ i. K.variable_made i (generation_for x) acts s) (sym those.0)
    ∙ next_means w code p x φ φs acts are.0 in
    ap (λ u. K.variables_made around n (u ∷ ds) acts s) those.1
    ∙ ap (λ c. flow_on acts (K.automatic_made around n d c acts s) (λ u. K.variables_made around (n + 1) ds))
    listed.0.class
    ∙ ap (λ es. flow_on acts (flow_on acts (K.extents around es acts s)
    (λ values. K.variable_made n (fresh (shape_of values d) (pos 0) (initial_of d))))
    (λ u. K.variables_made around (n + 1) ds)) listed.0.evaluations
    ∙ ap (λ flow. flow_on acts flow (λ u. K.variables_made around (n + 1) ds)) made
    ∙ all_mean around w code e q (layer_behind w.parts (p.state.serials + 1) φ x) φs xs ds (n + 1) (x.index + 1) acts
    are.1 listed.1 those.2

pub block_means :
    (around : Around) (head : Y.BlockHead) (acts : ℕ) (s s' : State) → head.kind ≡ Y.ProcedureBlock →
    K.variables_made around 0 (variables_of_block around.program head.number) acts s ≡ Normal tt s' →
    M.block_variables_made around head head.kind acts s ≡ Normal tt s'
unfolding M.block_variables_made
block_means around head acts s s' e made = ap (λ kind. M.block_variables_made around head kind acts s) e ∙ made

-- ---- the block then

abbrev pub changed_in : Layer → Changed
changed_in φ =
    record { units = φ.units; waits = φ.waits; told = φ.told; top = φ.top; lower = φ.lower; carried = φ.carried }

pub layer_resumed :
    (parts : MemoryParts) (serial : ℕ) (xs : List Declared) (m : Made) (φ : Layer) →
    layer_after parts serial (grown m φ) xs ≡ resumed (changed_in (layer_after parts serial (grown m φ) xs)) φ
layer_resumed parts serial [] m φ = refl
layer_resumed parts serial (x ∷ xs) m φ =
    layer_resumed parts (serial + 1) xs (made_now parts serial (grown m φ) x) φ

pub layers_after :
    (w : Surroundings) (p : Point) (φ : Layer) (φs : List Layer) (xs : List Declared) → p.control.layers ≡ φ ∷ φs →
    (all_made w.parts φ xs p).control.layers ≡ layer_after w.parts (p.state.serials + 1) φ xs ∷ φs
layers_after w p φ φs [] newest = newest
layers_after w p φ φs (x ∷ xs) newest =
    layers_after w (behind_made w.parts φ x p) (layer_behind w.parts (p.state.serials + 1) φ x) φs xs
    (next_layers w p x φ φs newest)

-- its activation has more bindings
pub record Binds (q : Point) (a : Activation) (as' : List Activation) : Type 0 where
  pub bindings : List Binding
  pub active : q.state.activations ≡ record a { bindings = bindings } ∷ as'

all_bind :
    (w : Surroundings) (p : Point) (φ : Layer) (xs : List Declared) (a : Activation) (as' : List Activation) →
    Binds p a as' → Binds (all_made w.parts φ xs p) a as'
all_bind w p φ [] a as' h = h
all_bind w p φ (x ∷ xs) a as' h =
    let b : Binding = record {
      variable = x.index;
      name = VariableName (p.state.serials + 1);
      shape = (generation_for x).shape;
    } in
    all_bind w (behind_made w.parts φ x p) (layer_behind w.parts (p.state.serials + 1) φ x) xs a as'
    (record { bindings = b ∷ h.bindings; active = ap (λ us. with_binding b us) h.active })

pub all_remain :
    (w : Surroundings) (code : List Instr) (r p : Point) (φ : Layer) (φs : List Layer) (xs : List Declared)
    (a : Activation) (as' : List Activation) → AllMayBegin w code p φ φs xs → Binds p a as' →
    length r.state.activations < a.height →
    Lives p.places p.state → Remains r p → Remains r (all_made w.parts φ xs p)
all_remain w code r p φ φs [] a as' are binds above lives remains = remains
all_remain w code r p φ φs (x ∷ xs) a as' are binds above lives remains =
    let m = made_now w.parts (p.state.serials + 1) φ x in
    let q = with_made m p in
    let height = ap newest_height binds.active in
    let one = all_bind w p φ (x ∷ []) a as' binds in
    all_remain w code r q (layer_behind w.parts (p.state.serials + 1) φ x) φs xs a as' are.1 one above
    (next_lives w code p x φ φs are.0 lives)
    (remains_made r p m remains lives (omega (arith, height, above)))

pub all_serials :
    (w : Surroundings) (p : Point) (φ : Layer) (xs : List Declared) →
    (all_made w.parts φ xs p).state.serials ≡ p.state.serials + length xs
all_serials w p φ [] = omega arith
all_serials w p φ (x ∷ xs) =
    let rest = all_serials w (behind_made w.parts φ x p) (layer_behind w.parts (p.state.serials + 1) φ x) xs in
    rest ∙ omega arith

pub all_world :
    (w : Surroundings) (p : Point) (φ : Layer) (xs : List Declared) →
    ((all_made w.parts φ xs p).state.world ≡ p.state.world)
    × ((all_made w.parts φ xs p).control.waiting ≡ p.control.waiting)
all_world w p φ [] = (refl, refl)
all_world w p φ (x ∷ xs) = all_world w (behind_made w.parts φ x p) (layer_behind w.parts (p.state.serials + 1) φ x) xs

-- ---- of a procedure

called_resumed :
    (w : Surroundings) (c : Callee) (p : Point) (numbers : ℕ → ℕ) (xs : List Declared) (serial : ℕ) →
    layer_after w.parts serial (layer_for w p numbers c.procedure c.calling) xs
    ≡ resumed (changed_in (layer_after w.parts serial (layer_for w p numbers c.procedure c.calling) xs))
    (layer_for w p numbers c.procedure c.calling)
called_resumed w c p numbers [] serial = refl
called_resumed w c p numbers (x ∷ xs) serial =
    let φ = layer_for w p numbers c.procedure c.calling in
    layer_resumed w.parts (serial + 1) xs (made_now w.parts serial φ x) φ

pub all_begun :
    (w : Surroundings) (code : List Instr) (c : Callee) (p : Point) (numbers : ℕ → ℕ) (xs : List Declared) →
    AreAllBegun w code c p numbers xs → AreMade w code c p numbers
all_begun w code c p numbers xs h =
    let start = begun_at w c p numbers in
    let y = beginning_for w p numbers c.procedure c.calling in
    let φ = layer_for w p numbers c.procedure c.calling in
    let φs = p.control.layers in
    let q = all_made w.parts φ xs start in
    let here : c.made start ≡ q = ap (λ (made : Point → Point). made start) h.made in
    let a = M.activation_of y.head y.entry (length p.state.activations + 1) in
    let binds : Binds start a p.state.activations = record { bindings = []; active = refl } in
    let bound = all_bind w start φ xs a p.state.activations binds in
    let each = h.few in
    let count = all_serials w start φ xs in
    let same = all_world w start φ xs in
    let size = ap (λ u. size_of u) h.code in
    record {
      stands = λ known. subst (λ u. Stands w u × IsImage w code u) (sym here)
          (all_stand w code start φ φs xs h.declared known);
      comes = λ credits f known l there.
          subst (λ u. Reach code credits f (services_of start) (credits + size_of c.procedure.variables) (services_of u)
          (λ b z. IsIn w u numbers (act_index c) b z)) (sym here)
          (subst (λ us. Reach code credits f (services_of start) (credits + size_of us) (services_of q)
          (λ b z. IsIn w q numbers (variables_index c + size_of us) b z)) (sym h.code)
          (all_come w code c.environment start numbers φ φs xs 0 credits (variables_index c) f h.declared h.listed
          h.parts known (subst (Linked w.links code (variables_index c)) h.code l) there));
      means = block_means (at_line c.around c.procedure.head.line) c.procedure.head w.acts start.state q.state h.kind
          (all_mean (at_line c.around c.procedure.head.line) w code c.environment start φ φs xs
          (variables_of_block c.around.program c.procedure.head.number) 0 0 w.acts h.declared h.listed h.those)
          ∙ ap (λ (u : Point). Normal tt u.state) (sym here);
      activation = record a { bindings = bound.bindings };
      parent = refl;
      changed = changed_in (layer_after w.parts (start.state.serials + 1) φ xs);
      layers = ap (λ (u : Point). u.control.layers) here ∙ layers_after w start φ φs xs refl
          ∙ ap (λ ψ. ψ ∷ φs) (called_resumed w c p numbers xs (start.state.serials + 1));
      own = [];
      activations = ap (λ (u : Point). u.state.activations) here ∙ bound.active;
      idle = ap (λ (u : Point). u.control.waiting) here ∙ same.1;
      world = ap (λ (u : Point). u.state.world) here ∙ same.0;
      remains = λ begun'. subst (λ u. Remains p u) (sym here)
          (all_remain w code p start φ φs xs a p.state.activations h.declared binds (omega arith) begun'.lives
          (remains_entered p y.head y.entry φ y.head.line));
      few = subst (λ (u : Point). u.state.serials ≤ p.state.serials + w.serials) (sym here)
          (omega (arith, each, count));
    }

-- ---- without INITIAL values

pub declared_begin :
    (w : Surroundings) (code : List Instr) (p : Point) (φ : Layer) (φs : List Layer) (xs : List Declared) →
    AreDeclared w p φ φs xs → AllMayBegin w code p φ φs xs
declared_begin w code p φ φs [] are = tt
declared_begin w code p φ φs (x ∷ xs) are = (
  one are.0,
  declared_begin w code (behind_made w.parts φ x p) (layer_behind w.parts (p.state.serials + 1) φ x) φs xs are.1,
)
  where
    one : Declares w p x φ φs → MayBegin w code p x φ φs
    one (inl is) = inl (without_initial w code p x φ φs is)
    one (inr is) = inr is

pub all_without :
    (w : Surroundings) (code : List Instr) (c : Callee) (p : Point) (numbers : ℕ → ℕ) (xs : List Declared) →
    AreAll w c p numbers xs → AreAllBegun w code c p numbers xs
all_without w code c p numbers xs h =
    record {
      kind = h.kind;
      those = h.those;
      listed = h.listed;
      code = h.code;
      made = h.made;
      parts = h.parts;
      few = h.few;
      declared = declared_begin w code (begun_at w c p numbers) (layer_for w p numbers c.procedure c.calling)
          p.control.layers xs h.declared;
    }

pub all_procedure :
    (w : Surroundings) (code : List Instr) (c : Callee) (p : Point) (numbers : ℕ → ℕ) (xs : List Declared) →
    AreAll w c p numbers xs → AreMade w code c p numbers
all_procedure w code c p numbers xs h =
    all_begun w code c p numbers xs (all_without w code c p numbers xs h)
