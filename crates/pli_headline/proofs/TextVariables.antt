-- Variables that hold texts: in the meaning, and the code that pushes them and stores in them.
use Rattle.std.proofs.Common.{◌≡◌, ℕ, ◌+◌, ◌*◌, ◌<◌, ◌≤◌, List, [], ◌++◌, length, Some, Bool, true, false, refl, sym, ap, ◌∙◌, subst, arith, lit<}
use Rattle.std.specs.Prelude.{ℤ, ◌==◌}
use Rattle.rv_meaning.specs.declared.instr.Instr.{Instr}
use Rattle.rv_meaning.specs.Machine.{memory_size}
use Rattle.pli_typing.specs.TypedTree as Y
use Rattle.pli_meaning.specs.BasicValues.{VariableName, BasicValue, BasicText}
use Rattle.pli_meaning.specs.Contents.{text_in, seen}
use Rattle.pli_meaning.specs.StorageState.{State, standing_for, named, with_world, with_generation}
use Rattle.pli_meaning.specs.Placing as P
use Rattle.pli_meaning.specs.Executing as M
use Rattle.pli_coding.specs.Storing.{top_stored}
use Rattle.pli_meaning.specs.Control.{Normal, give, stored, flow_on, ◌>>=◌}
use Rattle.pli_meaning.specs.Raising.{Around}
use Rattle.pli_meaning.specs.Evaluating as V
use Rattle.pli_serving.specs.Bytes.{with_bytes}
use Rattle.pli_serving.specs.Stored.{kept_bytes}
use Rattle.pli_serving.specs.ServiceState.{Services, TextEntry}
use Rattle.pli_serving.specs.Outcomes.{pushed}
use Rattle.pli_serving.specs.TextServices as W
use Rattle.pli_coding.specs.Assembly.{size_of}
use Rattle.pli_coding.specs.Environments.{Environment, Taken}
use Rattle.pli_coding.specs.Locating.{text_pushed, text_stored}
use Rattle.pli_coding.specs.Expressions.{text_code}
use Rattle.pli_coding.specs.Linking.{Links}
use Rattle.pli_headline.specs.ProvedSoFar.{Names, text_leaf}
use Rattle.run_steps.specs.Engine.{Base, address, most_code}
use Rattle.run_steps.specs.Items.{Linked, At}
use Rattle.run_steps.specs.Bodies.{Ground, Known, reserved_are}
use Rattle.run_steps.specs.Temporaries.{nothing}
use Rattle.run_steps.proofs.Temporaries.{stays_same}
use Rattle.run_steps.specs.Reaching.{Reaches}
use Rattle.pli_headline.proofs.Texts.{EvaluatesText}
use Rattle.pli_headline.proofs.TextLengths.{IsShort}
use Rattle.pli_headline.proofs.TextPlaces.{text_kind_of, text_asked, text_bytes, TextThere, read_answer, kept_answer, asked_piece}
use Rattle.pli_headline.proofs.Variables.{designated_scalar, scalar_shape, whole, own, level_of, scalar_binding, scalar_generation, designated_by, data_place, type_by, address_from, reached_from, IsDeclared}
use Rattle.run_steps.specs.Reach.{Family, Aims, Comes, Closed}

-- ---- in the meaning

-- a variable stands for a generation that holds a text
pub record HoldsText (s : State) (v : Y.Variable) (varying : Bool) (most : ℕ) (text : List ℕ) : Type 0 where
  pub serial : ℕ
  pub values : ℕ → List ℤ → BasicValue
  pub stands : standing_for s v ≡ Some (scalar_binding (text_leaf varying most) v.index serial)
  pub lives : named s (VariableName serial) (scalar_shape (text_leaf varying most)) ≡ Some (scalar_generation (text_leaf varying most) values)
  pub value : seen (text_kind_of varying most) (values 0 []) ≡ BasicText text
  pub short : IsShort text

pub text_gives : (varying : Bool) (around : Around) (s : State) (v : Y.Variable) (most : ℕ) (text : List ℕ) (k : ℕ) → HoldsText s v varying most text → V.text around (Y.TextIn (whole v)) k s ≡ give text k s
unfolding V.text ◌>>=◌ give
text_gives false around s v most text k h =
    ap (λ q. flow_on k q (λ d. give (text_in (V.value_in d)))) (designated_by around s v (text_leaf false most) h.serial h.values k h.stands h.lives)
    ∙ ap (λ u. give (text_in u) k s) h.value
text_gives true around s v most text k h =
    ap (λ q. flow_on k q (λ d. give (text_in (V.value_in d)))) (designated_by around s v (text_leaf true most) h.serial h.values k h.stands h.lives)
    ∙ ap (λ u. give (text_in u) k s) h.value

-- ---- in the code

pub text_loaded : (varying : Bool) (e : Environment) (t : Taken) (block : Names) (index most : ℕ) → IsDeclared e block index (text_leaf varying most) → text_code e t (Y.TextIn (whole (own block index))) ≡ text_asked (level_of block index == e.level) (level_of block index) 20 varying most (data_place e block index)
text_loaded false e t block index most declared =
    ap (λ o. reached_from e t block index o ++ text_pushed (type_by o) (address_from e block index o)) declared.1
text_loaded true e t block index most declared =
    ap (λ o. reached_from e t block index o ++ text_pushed (type_by o) (address_from e block index o)) declared.1

-- ---- as an expression

pub text_evaluates : {links : Links} {code : List Instr} {g : Ground} {v : Services} {s : State} {k : ℕ} (varying : Bool) (e : Environment) (around : Around) (block : Names) (index most base : ℕ) (text : List ℕ) → most ≤ 1024 → IsDeclared e block index (text_leaf varying most) → HoldsText s (own block index) varying most text → Reaches (level_of block index == e.level) (level_of block index) g base → 4 * most_code ≤ base → base + data_place e block index + text_bytes varying most ≤ memory_size → base + data_place e block index < memory_size → ((t : ℕ → ℕ) (b : Base) (m : List ℕ) → g.memory t b m → TextThere varying most (base + data_place e block index) m text) → EvaluatesText links code g v s k 0 (λ taken. text_code e taken (Y.TextIn (whole (own block index)))) (V.text around (Y.TextIn (whole (own block index))))
unfolding give
text_evaluates {links} {code} {g} {v} {s} {k} varying e around block index most base text few declared holds reaches high inside below reads =
    record {
      does = λ {i} {h} {t} {aims} closed f taken room l at goal.
          let place = data_place e block index in
          let same = text_loaded varying e taken block index most declared in
          let there : i + size_of (text_asked (level_of block index == e.level) (level_of block index) 20 varying most place) ≡ i + size_of (text_code e taken (Y.TextIn (whole (own block index)))) = ap (λ c. i + size_of c) (sym same) in
          let small' = l.small' in
          subst (Comes code i f v aims) (sym (text_gives varying around s (own block index) most text k holds))
          (asked_piece g (pushed (TextEntry text) v) (level_of block index == e.level) (level_of block index) closed f 20 (λ c x0 x1 x2 x3 x4. W.push_served c x0 x1 x2) varying most base place (λ m. m) (base + place) most (lit< tt) (λ c u. refl) (omega arith) few reaches below (λ b h'. refl)
          (λ b m x3 x4 o. read_answer varying code v m (base + place) most text few (omega (arith, high, small')) inside (reads t b m o))
          (λ b m bytes o. (bytes, o))
          (subst (Linked links code i) same l) at
          (λ f1 at1. record {
            to = λ early.
                subst (λ u. aims.done u f1 (pushed (TextEntry text) v) text s) (sym there)
                (goal text f1 h t holds.short (stays_same taken h t) (λ b. record { pc = (at1 b).pc ∙ ap (address b) there; holds = (at1 b).holds }));
          }));
    }

-- ---- the store

-- the state after a text is assigned to what a variable stands for
abbrev pub text_state : State → Y.LeafType → (serial : ℕ) → (ℕ → List ℤ → BasicValue) → List ℕ → State
text_state s type serial values text =
    with_world s.world (with_generation (VariableName serial) (P.with_element (designated_scalar type serial values) (BasicText text)) s)

pub text_assigned : (varying : Bool) (around : Around) (s : State) (v : Y.Variable) (most : ℕ) (old text : List ℕ) (k : ℕ) (h : HoldsText s v varying most old) → M.assigned around (whole v) (BasicText text) k s ≡ Normal tt (text_state s (text_leaf varying most) h.serial h.values text)
unfolding M.assigned P.element_stored stored ◌>>=◌ give
text_assigned varying around s v most old text k h =
    ap (λ q. flow_on k q (λ d. P.element_stored d (BasicText text))) (designated_by around s v (text_leaf varying most) h.serial h.values k h.stands h.lives)

pub text_kept : (varying : Bool) (e : Environment) (t : Taken) (block : Names) (index most : ℕ) → IsDeclared e block index (text_leaf varying most) → top_stored e t (whole (own block index)) ≡ text_asked (level_of block index == e.level) (level_of block index) 27 varying most (data_place e block index)
text_kept false e t block index most declared =
    ap (λ o. reached_from e t block index o ++ text_stored (type_by o) (address_from e block index o)) declared.1
text_kept true e t block index most declared =
    ap (λ o. reached_from e t block index o ++ text_stored (type_by o) (address_from e block index o)) declared.1

-- the top text is assigned to a variable
pub text_stored_piece : {links : Links} {code : List Instr} {i : ℕ} {g : Ground} (g' : Ground) {v : Services} {h t : ℕ → ℕ} {s : State} {aims : Aims (Unit {0})} (closed : Closed code aims) (f : Family) (varying : Bool) (e : Environment) (around : Around) (taken : Taken) (block : Names) (index most base : ℕ) (old text : List ℕ) (k : ℕ) → most ≤ 1024 → IsDeclared e block index (text_leaf varying most) → (holds : HoldsText s (own block index) varying most old) → Reaches (level_of block index == e.level) (level_of block index) g base → 4 * most_code ≤ base → base + data_place e block index + text_bytes varying most ≤ memory_size → base + data_place e block index < memory_size → ((b : Base) (h' : ℕ → ℕ) → reserved_are b g h' ≡ reserved_are b g' h') → ((b : Base) (m : List ℕ) → length m ≡ memory_size → g.memory t b m → (length (with_bytes (kept_bytes (text_kind_of varying most) (BasicText text)) (base + data_place e block index) m) ≡ memory_size) × g'.memory t b (with_bytes (kept_bytes (text_kind_of varying most) (BasicText text)) (base + data_place e block index) m)) → Linked links code i (top_stored e taken (whole (own block index))) → ((b : Base) → At b i (Known g (pushed (TextEntry text) v) h t nothing b) (f b)) → ((f' : Family) → ((b : Base) → At b (i + size_of (top_stored e taken (whole (own block index)))) (Known g' v h t nothing b) (f' b)) → aims.done (i + size_of (top_stored e taken (whole (own block index)))) f' v tt (text_state s (text_leaf varying most) holds.serial holds.values text)) → Comes code i f (pushed (TextEntry text) v) aims (M.assigned around (whole (own block index)) (BasicText text) k s)
text_stored_piece {links} {code} {i} {g} g' {v} {h} {t} {s} {aims} closed f varying e around taken block index most base old text k few declared holds reaches high inside below same writes l at goal =
    let place = data_place e block index in
    let eq = text_kept varying e taken block index most declared in
    let there : i + size_of (text_asked (level_of block index == e.level) (level_of block index) 27 varying most place) ≡ i + size_of (top_stored e taken (whole (own block index))) = ap (λ c. i + size_of c) (sym eq) in
    let small' = l.small' in
    subst (Comes code i f (pushed (TextEntry text) v) aims) (sym (text_assigned varying around s (own block index) most old text k holds))
    (asked_piece g' v (level_of block index == e.level) (level_of block index) closed f 27 (λ c x0 x1 x2 x3 x4. W.store_served c x0 x1 x2) varying most base place (with_bytes (kept_bytes (text_kind_of varying most) (BasicText text)) (base + place)) (length text) most (lit< tt) (λ c u. refl) (omega arith) few reaches below same
    (λ b m x3 x4 o. kept_answer varying code v m (base + place) most text few (omega (arith, high, small')) inside)
    writes
    (subst (Linked links code i) eq l) at
    (λ f1 at1. record {
      to = λ early.
          subst (λ u. aims.done u f1 v tt (text_state s (text_leaf varying most) holds.serial holds.values text)) (sym there)
          (goal f1 (λ b. record { pc = (at1 b).pc ∙ ap (address b) there; holds = (at1 b).holds }));
    }))
