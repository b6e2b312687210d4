-- The blocks further out of one that is called from a block of the class with a list of arguments: the calling block,
-- whose words tell the list, and those around that.
use Rattle.std.proofs.Common.{◌≡◌, ℕ, suc, ◌+◌, ◌*◌, ◌≤◌, List, [], ◌∷◌, length, Bool, true, refl, sym, ap}
use Rattle.std.proofs.Common.{◌∙◌, subst, arith}
use Rattle.pli_typing.specs.TypedTree as Y
use Rattle.pli_meaning.specs.Control.{Label, is_among}
use Rattle.pli_meaning.specs.DeclaredShapes.{variables_of_block}
use Rattle.pli_meaning.specs.Executing.{labels_in}
use Rattle.pli_meaning.specs.StorageState.{ancestor_at}
use Rattle.pli_coding.specs.Frames.{fixed_size, frame_end, parameters_in, variable_place}
use Rattle.activation_relation.specs.FrameLaws.{with_waits}
use Rattle.activation_relation.specs.Frames.{frame_under, upper_top}
use Rattle.activation_relation.specs.Layers.{Layer, Point}
use Rattle.program_runs.specs.Starts.{image_parts}
use Rattle.program_runs.specs.Statements.{Outer, as_outer}
use Rattle.argument_runs.specs.Copies.{copy_made_of}
use Rattle.activation_relation.specs.Variables.{grown}
use Rattle.argument_runs.specs.ListCalls.{entered_point}
use Rattle.word_runs.specs.Words.{telling}
use Rattle.nested_calls.proofs.NestedVariables.{same_ancestor}
use Rattle.list_calls.specs.Lists.{Parameter, Passing, PassesCopy, PassesName, bound_all, copied_at, copy_with}
use Rattle.list_calls.specs.Lists.{name_told, named_as}
use Rattle.list_calls.specs.Taking.{bound_waits, giving_of, given_waits, listed_layer}
use Rattle.list_calls.proofs.ListBlocks.{layer_is}
use Rattle.list_calls.proofs.ListKnown.{list_over}
use Rattle.number_runs.specs.Knowledge.{Includes}
use Rattle.number_runs.specs.Variables.{bytes_of}
use Rattle.number_headlines.specs.Jumps.{is_jumped_to, labels_if}
use Rattle.number_headlines.specs.Programs.{beside_received, received_in}
use Rattle.number_headlines.proofs.CalledBlocks.{Moment}
use Rattle.number_headlines.proofs.CalledLandings.{HasStacks, end_place, inner_in, landing_by, made_stacks}
use Rattle.number_headlines.proofs.CalledLandings.{with_outers}
use Rattle.number_headlines.proofs.Landings.{HasLandings, IsTarget, told_landings}
use Rattle.number_headlines.proofs.ListEntered.{Given, arrived_of, begins, call_of, calls_from, run_given, words_here}
use Rattle.number_headlines.proofs.ListMade.{call_at, layer_at, made_account, point_at, words_room}
use Rattle.number_headlines.proofs.ListSites.{own_of, parameters_for, words_for}
use Rattle.number_headlines.proofs.ListWords.{behind_here, many_behind, place_behind}
use Rattle.number_headlines.proofs.Mains.{Main}
use Rattle.number_headlines.proofs.Running.{Running, block_of_run, function_by}

-- ---- its stacks, and where its frame ends

bound_stacks :
    (words : ℕ) (xs : List Parameter) (ys : List Passing) (ψ φ : Layer) (φs : List Layer) (p : Point) →
    HasStacks p (bound_all words xs ys ψ φ φs p)
bound_stacks words [] ys ψ φ φs p = record { entries = refl; edits = refl }
bound_stacks words (x ∷ xs) [] ψ φ φs p = record { entries = refl; edits = refl }
bound_stacks words (x ∷ xs) (PassesCopy z ∷ ys) ψ φ φs p =
    let last = words + 6 * length ys in
    let h = bound_stacks words xs ys (grown (copy_made_of ψ (copy_with x z)) ψ)
    (with_waits (name_told last (p.state.serials + 1) x.number 1 φ.waits) φ) φs
    (copied_at last ψ φ φs (copy_with x z) p) in
    record { entries = h.entries; edits = h.edits }
bound_stacks words (x ∷ xs) (PassesName serial signature ∷ ys) ψ φ φs p =
    let h = bound_stacks words xs ys ψ φ φs (named_as x serial p) in
    record { entries = h.entries; edits = h.edits }

given_target :
    {program : Y.Program} (m : Main program) {input : List ℕ} {acts : ℕ} {valued : Bool} {more b : ℕ} {a : Running}
    {ns : List ℕ} {v : Bool} {level number : ℕ} (o : Given m input acts valued more b a ns v level number)
    (os : List Outer) → IsTarget program (with_outers os (run_given o))
given_target {program} m {ns = ns} {v = v} o os =
    let at = arrived_of o in
    let i = o.inner in
    let y = call_at at in
    let ds = variables_of_block program i.head.number in
    let first = received_in ds in
    let es = beside_received ds in
    let place = fixed_size i.head.level (length ns) in
    let own = own_of i o.is.some in
    let account = made_account m at o.all in
    let room = words_room m at o.all in
    let here = words_here at in
    let bound = bound_stacks y.words (parameters_for i) o.passed (listed_layer y) (with_waits (given_waits y) y.layer)
    y.others (entered_point (giving_of (function_by v) y)) in
    let same = made_stacks (layer_at at) (words_for i) (point_at at) in
    let layer = layer_is (parameters_for i) o.passed (listed_layer y) in
    let newest = ap (λ (u : Point). u.control.layers) here ∙ account.newest in
    let top = ap (λ ls. upper_top image_parts ls) newest in
    let frame = ap (λ ls. frame_under image_parts ls) newest in
    let end' = account.here in
    let counted = room.counted in
    let many = many_behind first ds es (behind_here ds) in
    let end : frame_end image_parts program i.head.number i.head.level ≡ place + bytes_of es =
    ap (λ q. variable_place image_parts (fixed_size i.head.level (length (parameters_in q))) ds (length ds)) i.is
    ∙ ap (λ n. variable_place image_parts place ds n) (sym many)
    ∙ place_behind image_parts place first ds es (length es) (behind_here ds) (omega (arith, counted))
    ∙ end_place image_parts place es own.beside (omega (arith, counted)) in
    record {
      entries = ap (λ (u : Point). u.control.entries) here ∙ same.entries ∙ bound.entries
          ∙ sym (ap (λ (ψ : Layer). ψ.entries) layer);
      edits = ap (λ (u : Point). u.control.edits) here ∙ same.edits ∙ bound.edits
          ∙ sym (ap (λ (ψ : Layer). ψ.edits) layer);
      registers = λ held. omega (arith, held);
      top = omega (arith, top, frame, end', end);
    }

-- ---- all of it

given_same :
    {program : Y.Program} (m : Main program) {input : List ℕ} {acts : ℕ} {valued : Bool} {more b : ℕ} {a : Running}
    {ns : List ℕ} {v : Bool} {level number : ℕ} (o : Given m input acts valued more b a ns v level number) (n : ℕ) →
    n ≤ level →
    ancestor_at (block_of_run program input acts v more (run_given o)).first.state n
    ≡ ancestor_at (calls_from o).first.state n
given_same m {more = more} {v = v} o n low =
    let h = begins m o in
    same_ancestor n (list_over (function_by v) (calls_from o) (call_of o) more o.point o.numbers o.passed h)
    h.declared.nested h.among h.declared.around_it low

pub given_landings :
    {program : Y.Program} (m : Main program) {input : List ℕ} {acts : ℕ} {valued : Bool} {more b : ℕ} {a : Running}
    {ns : List ℕ} {v : Bool} {level number : ℕ} (o : Given m input acts valued more b a ns v level number) →
    HasLandings m a → (labels : List Label) →
    (is_jumped_to program m.called a.head.level a.head.number ≡ true → Includes (labels_in a.body) labels) →
    HasLandings m
    (with_outers
    (as_outer (telling (bound_waits (call_at (arrived_of o))) o.site.layer o.site.others (calls_from o)) labels
    ∷ a.form.outers) (run_given o))
given_landings {program} m {input} {acts} {valued} {more} {b} {a = a} o lands labels includes =
    let waits = bound_waits (call_at (arrived_of o)) in
    let φ = o.site.layer in
    let φs = o.site.others in
    let os = as_outer (telling waits φ φs (calls_from o)) labels ∷ a.form.outers in
    let r = with_outers os (run_given o) in
    let told = told_landings waits φ φs o.is.newest lands in
    let at : Moment m input acts valued (suc more) a (suc b) o.point o.numbers = record {
      running = o.caller;
      among = o.among;
    } in
    record {
      far = λ n label out.
          landing_by m at (λ ls. with_waits waits φ ∷ φs) lands told.target labels includes r (inner_in o.inner) refl
          (λ j low. given_same m o j low) n label out;
      own = λ label among. subst (λ ls. is_among label ls ≡ true) (ap labels_if o.inner.is) among;
      target = λ jumped label among. given_target m o os;
    }
