-- Variables of a block of the class: what they count for in AUTOMATIC storage, and that those which pass the limit on
-- that end the run.
use Rattle.std.proofs.Common.{◌≡◌, inl, ℕ, ◌+◌, ◌%◌, ◌^◌, ◌<◌, ◌≤◌, List, [], ◌∷◌, Bool, true, false}
use Rattle.std.proofs.Common.{refl, ap, ◌∙◌, arith}
use Rattle.std.specs.Prelude.{cond, nat_le, nat_lt, pos, if◌then◌else◌}
use Rattle.std.proofs.lemmas.Bool.{and_parts, leb-true}
use Rattle.rv_meaning.specs.declared.instr.Instr.{Instr}
use Rattle.pli_typing.specs.TypedTree as Y
use Rattle.pli_meaning.specs.BasicValues.{VariableName}
use Rattle.pli_meaning.specs.Contents.{footprint_of, fresh}
use Rattle.pli_meaning.specs.Control as F
use Rattle.pli_meaning.specs.Control.{Normal, choose, finish, flow_on, give, looked, stored, ◌>>=◌, ◌>>◌}
use Rattle.pli_meaning.specs.DeclaredShapes.{initial_of, shape_of}
use Rattle.pli_meaning.specs.Making as K
use Rattle.pli_meaning.specs.Making.{with_binding, with_variable}
use Rattle.pli_meaning.specs.Raising.{Around}
use Rattle.pli_meaning.specs.StorageState.{Activation, Binding, State, automatic_in_use, most_automatic, newest_height}
use Rattle.pli_meaning.specs.StorageState.{with_world}
use Rattle.pli_meaning.specs.World.{ending}
use Rattle.pli_meaning.specs.declared.outcome.End.{End}
use Rattle.pli_meaning.specs.declared.outcome.End.TheVariants as E
use Rattle.pli_meaning.specs.declared.outcome.Limit.TheVariants as L
use Rattle.pli_coding.specs.Assembly.{size_of}
use Rattle.pli_coding.specs.Entries.{constant_made}
use Rattle.pli_coding.specs.Environments.{Environment}
use Rattle.pli_coding.specs.Frames.{MemoryParts, last_place}
use Rattle.storage_relation.proofs.Holders.{eqb-other}
use Rattle.activation_relation.specs.Layers.{Layer, Point, services_of}
use Rattle.activation_relation.specs.Points.{Stands, Surroundings}
use Rattle.run_steps.specs.Items.{Linked}
use Rattle.run_steps.proofs.Jumps.{back_of, front_of}
use Rattle.run_steps.proofs.Linking.{size_append}
use Rattle.run_steps.specs.Reach.{Family, cost, reached}
use Rattle.run_steps.proofs.Reach.{reached_holds}
use Rattle.block_runs.specs.Machines.{AreIn, IsImage}
use Rattle.program_runs.specs.Initial.{Begins, MayBeMade}
use Rattle.program_runs.specs.Variables.{Declared, generation_for}
use Rattle.program_runs.proofs.Variables.{started_means}
use Rattle.variable_runs.specs.Lists.{all_made, behind_made, layer_after, layer_behind, made_code}
use Rattle.variable_runs.proofs.Lists.{next_comes, next_layers, next_stands}
use Rattle.nested_calls.specs.FullVariables.{Over, PassesLimit}
use Rattle.nested_calls.proofs.FullVariables.{over_then, variable_ends}
use Rattle.number_runs.specs.Variables.{AreTabled, EachBegins, HaveRoom, IsTabled, are_plain, bytes_of, is_declared}
use Rattle.number_runs.specs.Variables.{variable_bytes, words_from}
use Rattle.number_runs.proofs.Declared.{makeable, sized}
use Rattle.number_runs.proofs.Words.{one_declared, word_made}

-- ---- what they count for

-- the newest activation has a height that is no owner of static storage
pub record IsOwner (p : Point) : Type 0 where
  pub activation : Activation
  pub below : List Activation
  pub active : p.state.activations ≡ activation ∷ below
  pub some : 0 < activation.height

next_owner :
    (parts : MemoryParts) (p : Point) (φ : Layer) (x : Declared) → IsOwner p → IsOwner (behind_made parts φ x p)
next_owner parts p φ x h =
    let b : Binding = record {
      variable = x.index;
      name = VariableName (p.state.serials + 1);
      shape = (generation_for x).shape;
    } in
    record {
      activation = record h.activation { bindings = b ∷ h.activation.bindings };
      below = h.below;
      active = ap (λ as'. with_binding b as') h.active;
      some = h.some;
    }

one_counts :
    (parts : MemoryParts) (p : Point) (φ : Layer) (e : Environment) (place index : ℕ) (d : Y.DeclaredVariable) →
    is_declared d ≡ true → IsOwner p →
    automatic_in_use (behind_made parts φ (word_made e place index d) p).state.living
    ≡ automatic_in_use p.state.living + variable_bytes d
one_counts parts p φ e place index d is h =
    let x = word_made e place index d in
    let used = automatic_in_use p.state.living in
    let height = ap (λ as'. newest_height as') h.active in
    let some = h.some in
    let counts = (makeable d is).counts in
    ap (λ q. if q then used else footprint_of (generation_for x) + used)
    (eqb-other (newest_height p.state.activations) 0 (λ e'. omega (arith, height, some, e')))
    ∙ omega (arith, counts)

pub words_count :
    (parts : MemoryParts) (p : Point) (φ : Layer) (e : Environment) (place index : ℕ) (ds : List Y.DeclaredVariable) →
    are_plain ds ≡ true → IsOwner p →
    automatic_in_use (all_made parts φ (words_from e place index ds) p).state.living
    ≡ automatic_in_use p.state.living + bytes_of ds
words_count parts p φ e place index [] plain h = omega arith
words_count parts p φ e place index (d ∷ ds) plain h =
    let a = and_parts (is_declared d) (are_plain ds) plain in
    let x = word_made e place index d in
    let one = one_counts parts p φ e place index d a.0 h in
    let rest = words_count parts (behind_made parts φ x p) (layer_behind parts (p.state.serials + 1) φ x) e
    (place + variable_bytes d) (index + 1) ds a.1 (next_owner parts p φ x h) in
    omega (arith, one, rest)

-- the lower stack stays as it is
pub words_lower :
    (parts : MemoryParts) (serial : ℕ) (φ : Layer) (xs : List Declared) →
    (layer_after parts serial φ xs).lower ≡ φ.lower
words_lower parts serial φ [] = refl
words_lower parts serial φ (x ∷ xs) = words_lower parts (serial + 1) (layer_behind parts serial φ x) xs

-- and the frame where it is
pub words_at :
    (parts : MemoryParts) (serial : ℕ) (φ : Layer) (xs : List Declared) → (layer_after parts serial φ xs).at ≡ φ.at
words_at parts serial φ [] = refl
words_at parts serial φ (x ∷ xs) = words_at parts (serial + 1) (layer_behind parts serial φ x) xs

-- ---- those that pass the limit

-- the frame has room for so many bytes
pub record HasStack (w : Surroundings) (p : Point) (φ : Layer) (φs : List Layer) (place bytes : ℕ) : Type 0 where
  pub newest : p.control.layers ≡ φ ∷ φs
  pub here : φ.at + place ≡ φ.top
  pub even : φ.top % 16 ≡ 0
  pub counted : place + bytes ≤ last_place
  pub inside : φ.top + bytes < 2 ^ 24
  pub low : p.places.low ≤ w.parts.stack_start
  -- for those that don't pass the limit between the stacks
  pub fits : φ.top + most_automatic ≤ φ.lower + automatic_in_use p.state.living
  pub used : automatic_in_use p.state.living ≤ most_automatic

stack_room :
    {w : Surroundings} {p : Point} {φ : Layer} {φs : List Layer} {place : ℕ} (bytes more : ℕ) →
    HasStack w p φ φs place (bytes + more) → automatic_in_use p.state.living + bytes ≤ most_automatic →
    HaveRoom w p φ φs place (bytes + 0)
stack_room bytes more h less =
    let counted = h.counted in
    let fits = h.fits in
    record {
      newest = h.newest;
      here = h.here;
      even = h.even;
      counted = omega (arith, counted);
      fits = omega (arith, fits, less);
      low = h.low;
      limit = omega (arith, less);
    }

next_stack :
    (w : Surroundings) (p : Point) (φ : Layer) (φs : List Layer) (e : Environment) (place index more : ℕ)
    (d : Y.DeclaredVariable) → is_declared d ≡ true → IsOwner p → HasStack w p φ φs place (variable_bytes d + more) →
    automatic_in_use p.state.living + variable_bytes d ≤ most_automatic →
    HasStack w (behind_made w.parts φ (word_made e place index d) p)
    (layer_behind w.parts (p.state.serials + 1) φ (word_made e place index d)) φs (place + variable_bytes d) more
next_stack w p φ φs e place index more d is owner h less =
    let here = h.here in
    let even = h.even in
    let counted = h.counted in
    let fits = h.fits in
    let inside = h.inside in
    let one = one_counts w.parts p φ e place index d is owner in
    let frame = (makeable d is).frame w.parts in
    let whole' = (sized d is).even in
    record {
      newest = next_layers w p (word_made e place index d) φ φs h.newest;
      here = omega (arith, here, counted, frame);
      even = omega (arith, here, even, counted, frame, whole');
      counted = omega (arith, counted);
      inside = omega (arith, here, inside, counted, frame);
      low = h.low;
      fits = omega (arith, here, fits, counted, one, frame);
      used = omega (arith, less, one);
    }

-- what surrounds their code
pub record HasWord (w : Surroundings) (e : Environment) : Type 0 where
  pub parts : e.parts ≡ w.parts
  pub acts : w.acts + 1 < 2 ^ 64

-- the run ends where the first that passes the limit would be made
pub record AreOver (w : Surroundings) (code : List Instr) (e : Environment) (around : Around) (p : Point)
    (numbers : ℕ → ℕ) (place index : ℕ) (ds : List Y.DeclaredVariable) : Type 0
  where
    pub state : State
    pub means : K.variables_made around index ds w.acts p.state ≡ finish (E.Limit L.Automatic) w.acts state
    pub over :
        (c i : ℕ) (f : Family) → Stands w p × IsImage w code p →
        c + size_of (made_code e (words_from e place index ds)) ≤ cost code →
        Linked w.links code i (made_code e (words_from e place index ds)) → AreIn w p numbers i f →
        Over code c f (services_of p) (E.Limit L.Automatic) state

abbrev over_flow : Bool → End → State → F.Flow (Unit {0})
over_flow q end s = cond q (F.Ended (with_world (ending end s.world) s)) (F.Paused s)

finish_by :
    (q : Bool) (end : End) (k : ℕ) (s : State) (next : F.Meaning (Unit {0})) →
    flow_on k (over_flow q end s) (λ u. next) ≡ over_flow q end s
finish_by true end k s next = refl
finish_by false end k s next = refl

finish_first :
    (end : End) (k : ℕ) (s : State) (next : F.Meaning (Unit {0})) →
    flow_on k (finish {R = Unit {0}} end k s) (λ u. next) ≡ finish end k s
unfolding finish
finish_first end k s next = finish_by (nat_lt s.world.acts k) end k s next

passes :
    (w : Surroundings) (code : List Instr) (p : Point) (φ : Layer) (φs : List Layer) (e : Environment)
    (place index more : ℕ) (d : Y.DeclaredVariable) → is_declared d ≡ true → IsTabled e p.places.signatures d →
    Begins p.places.constants code w.links.data' d → HasStack w p φ φs place (variable_bytes d + more) →
    nat_le (automatic_in_use p.state.living + variable_bytes d) most_automatic ≡ false →
    PassesLimit w code p (word_made e place index d) φ φs
passes w code p φ φs e place index more d is table begins h past =
    let here = h.here in
    let inside = h.inside in
    let m = makeable d is in
    let some = (sized d is).some in
    record {
      newest = h.newest;
      inside = omega (arith, here, inside, some);
      shape = table.shape;
      number = table.small;
      initial = begins;
      limit = ap (λ n. nat_le (automatic_in_use p.state.living + n) most_automatic) m.counts ∙ past;
    }

by_decision : (q : Bool) {P : Type 0} → (q ≡ true → P) → (q ≡ false → P) → P
by_decision true one other = one refl
by_decision false one other = other refl

-- what is AUTOMATIC and evaluates nothing is made before those behind it
first_means :
    (around : Around) (index acts : ℕ) (d : Y.DeclaredVariable) (ds : List Y.DeclaredVariable) (s : State) →
    is_declared d ≡ true →
    K.variables_made around index (d ∷ ds) acts s
    ≡ flow_on acts (K.variable_made index (fresh (shape_of [] d) (pos 0) (initial_of d)) acts s)
    (λ u. K.variables_made around (index + 1) ds)
unfolding K.variables_made K.automatic_made K.extents give ◌>>=◌ ◌>>◌
first_means around index acts d ds s is =
    let m = makeable d is in
    let next : F.Meaning (Unit {0}) = K.variables_made around (index + 1) ds in
    ap (λ c. flow_on acts (K.automatic_made around index d c acts s) (λ u. next)) m.class
    ∙ ap (λ es. flow_on acts (flow_on acts (K.extents around es acts s)
    (λ values. K.variable_made index (fresh (shape_of values d) (pos 0) (initial_of d)))) (λ u. next)) m.evaluations

-- the first one passes it
first_over :
    (w : Surroundings) (code : List Instr) (e : Environment) (around : Around) (p : Point) (numbers : ℕ → ℕ)
    (φ : Layer) (φs : List Layer) (place index : ℕ) (d : Y.DeclaredVariable) (ds : List Y.DeclaredVariable) →
    HasWord w e → is_declared d ≡ true → PassesLimit w code p (word_made e place index d) φ φs →
    AreOver w code e around p numbers place index (d ∷ ds)
unfolding K.variable_made looked choose stored give ◌>>=◌ ◌>>◌
first_over w code e around p numbers φ φs place index d ds has is past =
    let x = word_made e place index d in
    let first = constant_made e place d in
    let rest = made_code e (words_from e (place + variable_bytes d) (index + 1) ds) in
    let n = size_append first rest in
    let made : K.variable_made index (generation_for x) w.acts p.state
    ≡ finish (E.Limit L.Automatic) w.acts p.state =
    ap (λ q. cond q (Normal tt (with_variable index (generation_for x) p.state))
    (finish (E.Limit L.Automatic) w.acts p.state)) past.limit in
    record {
      state = p.state;
      means =
          first_means around index w.acts d ds p.state is
          ∙ ap (λ flow. flow_on w.acts flow (λ u. K.variables_made around (index + 1) ds)) made
          ∙ finish_first (E.Limit L.Automatic) w.acts p.state (K.variables_made around (index + 1) ds);
      over = λ c i f known paid l there.
          variable_ends w code e p numbers x φ φs c i f known past (refl, has.parts)
          (omega (arith, paid, n), has.acts) (front_of first rest l) there;
    }

-- it is made, and one behind it passes the limit
later_over :
    (w : Surroundings) (code : List Instr) (e : Environment) (around : Around) (p : Point) (numbers : ℕ → ℕ)
    (φ : Layer) (φs : List Layer) (place index : ℕ) (d : Y.DeclaredVariable) (ds : List Y.DeclaredVariable) →
    HasWord w e → is_declared d ≡ true → MayBeMade w code p (word_made e place index d) φ φs →
    AreOver w code e around (behind_made w.parts φ (word_made e place index d) p) numbers
    (place + variable_bytes d) (index + 1) ds →
    AreOver w code e around p numbers place index (d ∷ ds)
later_over w code e around p numbers φ φs place index d ds has plain is next =
    let x = word_made e place index d in
    let q = behind_made w.parts φ x p in
    let first = constant_made e place d in
    let rest = made_code e (words_from e (place + variable_bytes d) (index + 1) ds) in
    let n = size_append first rest in
    record {
      state = next.state;
      means =
          first_means around index w.acts d ds p.state plain
          ∙ ap (λ flow. flow_on w.acts flow (λ u. K.variables_made around (index + 1) ds))
          (started_means w code p x φ φs w.acts is)
          ∙ next.means;
      over = λ c i f known paid l there.
          let r = next_comes w code e p numbers x φ φs c i f known (inl is) (refl, has.parts)
          (front_of first rest l) there in
          over_then r
          (next.over (c + size_of first) (i + size_of first) (reached r)
          (next_stands w code p x φ φs known (inl is)) (omega (arith, paid, n))
          (back_of first rest l) (reached_holds r));
    }

pub words_over :
    (w : Surroundings) (code : List Instr) (e : Environment) (around : Around) (p : Point) (numbers : ℕ → ℕ)
    (φ : Layer) (φs : List Layer) (place index : ℕ) (ds : List Y.DeclaredVariable) → HasWord w e →
    are_plain ds ≡ true → AreTabled e p.places.signatures ds → EachBegins p.places.constants code w.links.data' ds →
    IsOwner p → HasStack w p φ φs place (bytes_of ds) → most_automatic < automatic_in_use p.state.living + bytes_of ds →
    AreOver w code e around p numbers place index ds
words_over w code e around p numbers φ φs place index [] has plain tabled begin owner h past =
    let used = h.used in absurd (omega (arith, used, past))
words_over w code e around p numbers φ φs place index (d ∷ ds) has plain tabled begin owner h past =
    let a = and_parts (is_declared d) (are_plain ds) plain in
    let x = word_made e place index d in
    let one = one_counts w.parts p φ e place index d a.0 owner in
    by_decision (nat_le (automatic_in_use p.state.living + variable_bytes d) most_automatic)
    (λ e'.
    let less = leb-true (automatic_in_use p.state.living + variable_bytes d) most_automatic e' in
    later_over w code e around p numbers φ φs place index d ds has a.0
    (one_declared w code p φ φs e place index 0 d a.0 tabled.0 begin.0
    (stack_room (variable_bytes d) (bytes_of ds) h less))
    (words_over w code e around (behind_made w.parts φ x p) numbers
    (layer_behind w.parts (p.state.serials + 1) φ x) φs (place + variable_bytes d) (index + 1) ds
    has a.1 tabled.1 begin.1 (next_owner w.parts p φ x owner)
    (next_stack w p φ φs e place index (bytes_of ds) d a.0 owner h less) (omega (arith, past, one))))
    (λ e'.
    first_over w code e around p numbers φ φs place index d ds has a.0
    (passes w code p φ φs e place index (bytes_of ds) d a.0 tabled.0 begin.0 h e'))
