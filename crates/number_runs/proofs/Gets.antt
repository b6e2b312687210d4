-- GET SKIP, and GET EDIT of numbers, do what they mean.
use Rattle.std.proofs.Common.{◌≡◌, ℕ, ◌+◌, ◌<◌, ◌≤◌, List, [], ◌∷◌, ◌++◌, true, false, refl, sym, ap, ◌∙◌, subst}
use Rattle.std.proofs.Common.{arith, inl, inr, ◌⊎◌}
use Rattle.std.specs.Prelude.{ℤ, ◌&&◌, ◌||◌, Bool, not, Option}
use Rattle.std.proofs.lemmas.Bool.{and_parts}
use Rattle.pli_language.specs.declared.condition.Condition.TheVariants as C
use Rattle.pli_language.specs.Tree as T
use Rattle.pli_typing.specs.TypedTree as Y
use Rattle.pli_meaning.specs.Control.{Label}
use Rattle.pli_meaning.specs.StorageState.{force}
use Rattle.pli_coding.specs.Allocating.{act_code}
use Rattle.pli_coding.specs.Assembly.{Code, size_of}
use Rattle.pli_coding.specs.Registers.{held_registers}
use Rattle.pli_coding.specs.Statements.{stmt_code}
use Rattle.pli_coding.specs.StaticForms.{formats_datum}
use Rattle.pli_coding.specs.Streams as S
use Rattle.pli_coding.specs.Streams.{edit_ended, has_fixed, has_text}
use Rattle.activation_relation.specs.ServiceLaws.{IsSystem}
use Rattle.run_steps.specs.DataNamed.{IsPlaced}
use Rattle.run_steps.specs.Items.{Linked}
use Rattle.run_steps.specs.Reach.{cost}
use Rattle.run_steps.proofs.Jumps.{back_of, front_of}
use Rattle.program_runs.specs.Statements.{Block, DoesWith, HasAct, set_aside, size_with}
use Rattle.expression_runs.specs.Assignments.{setting_around}
use Rattle.expression_runs.specs.Values.{Setting}
use Rattle.text_runs.proofs.Errors.{error_ends}
use Rattle.edit_runs.specs.Edits.{within}
use Rattle.get_runs.specs.Gets.{AreListed, AreTargets, Get, GetList, IsOfNumbers, IsTarget, ListsHaveTargets, get_items}
use Rattle.get_runs.specs.Gets.{get_of, get_pairs}
use Rattle.get_runs.proofs.Ends.{endfile_ends}
use Rattle.get_runs.proofs.Gets.{get_does}
use Rattle.get_runs.proofs.Storing.{number_target}
use Rattle.number_runs.specs.Gets.{are_get_items, are_get_pairs, is_get, is_get_item}
use Rattle.number_runs.specs.Knowledge.{IsUnraised, KnowsLists, KnowsPuts, KnowsReads, MayBeSet}
use Rattle.number_runs.specs.Numbers.{Scope, is_variable}
use Rattle.number_runs.specs.Puts.{are_formats, is_list, is_skip}
use Rattle.number_runs.proofs.Formats.{list_is}
use Rattle.number_runs.proofs.Puts.{skip_is}
use Rattle.number_runs.proofs.Variables.{variable_is}

-- ---- as the law has it

targets_of : List Y.GetItem → List Y.Reference
targets_of [] = []
targets_of (Y.GetScalar r ∷ is) = r ∷ targets_of is
targets_of (Y.GetAggregate r ∷ is) = targets_of is

abbrev list_of : Y.GetPair → GetList
list_of p = record { targets = targets_of p.items; formats = p.formats }

lists_of : List Y.GetPair → List GetList
lists_of [] = []
lists_of (p ∷ ps) = list_of p ∷ lists_of ps

targets_are : (s : Scope) (is : List Y.GetItem) → are_get_items s is ≡ true → get_items (targets_of is) ≡ is
unfolding targets_of
targets_are s [] h = refl
targets_are s (Y.GetScalar r ∷ is) h =
    ap (λ js. Y.GetScalar r ∷ js) (targets_are s is (and_parts (is_variable s r) (are_get_items s is) h).1)
targets_are s (Y.GetAggregate r ∷ is) h = absurd (cc h)

-- the parts of one list
abbrev by_numbers : Y.GetPair → Bool
by_numbers p = is_list p.formats && not (has_text p.formats)

lists_are : (s : Scope) (ps : List Y.GetPair) → are_get_pairs s ps ≡ true → get_pairs (lists_of ps) ≡ ps
unfolding lists_of
lists_are s [] h = refl
lists_are s (p ∷ ps) h =
    let a = and_parts (are_get_items s p.items && by_numbers p) (are_get_pairs s ps) h in
    let b = and_parts (are_get_items s p.items) (by_numbers p) a.0 in
    ap (λ is. record { items = is; formats = p.formats } ∷ get_pairs (lists_of ps)) (targets_are s p.items b.0)
    ∙ ap (λ qs. p ∷ qs) (lists_are s ps a.1)

-- ---- what is known of them

fixed_by : (q r : Bool) → (q || r) ≡ true → r ≡ false → q ≡ true
fixed_by true r h e = refl
fixed_by false r h e = absurd (cc (sym e ∙ h))

not_is : (q : Bool) → not q ≡ true → q ≡ false
not_is true h = absurd (cc h)
not_is false h = refl

numbers_are : (fs : T.Formats) → is_list fs ≡ true → not (has_text fs) ≡ true → IsOfNumbers fs
numbers_are fs list none =
    let text = not_is (has_text fs) none in
    record {
      fixed = fixed_by (has_fixed fs) (has_text fs) (and_parts (are_formats fs) (has_fixed fs || has_text fs) list).1
          text;
      text = text;
      some = (list_is fs list).some;
    }

-- where the statement stands, in a block of a scope, while so many words are set aside, and that one act pays for it
pub record HasGet (words : ℕ) (s : Scope) (k : Block) (skip : Option ℕ) (pairs : List Y.GetPair) (line index most : ℕ)
    : Type 0
  where
    pub act : HasAct k line
    pub may : MayBeSet s words
    pub held : k.registers ≤ held_registers
    pub statement :
        Linked k.call.surroundings.links k.call.code index
        (stmt_code k.environment (set_aside words) (Y.Get skip pairs line))
    pub paid : size_with words k (Y.Get skip pairs line) + most ≤ cost k.call.code
    pub writes : s.puts ≡ true → KnowsPuts s k most
    pub reads : s.reads ≡ true → KnowsReads s k most

lists_listed :
    (words : ℕ) (s : Scope) (k : Block) → KnowsLists k → (ps : List Y.GetPair) (i : ℕ) → are_get_pairs s ps ≡ true →
    Linked k.call.surroundings.links k.call.code i (S.get_pairs k.environment (set_aside words) ps) →
    AreListed k (lists_of ps)
unfolding lists_of
lists_listed words s k knows [] i h l = tt
lists_listed words s k knows (p ∷ ps) i h l =
    let a = and_parts (are_get_items s p.items && by_numbers p) (are_get_pairs s ps) h in
    let b = and_parts (are_get_items s p.items) (by_numbers p) a.0 in
    let c = and_parts (is_list p.formats) (not (has_text p.formats)) b.1 in
    let rest = S.get_pairs k.environment (set_aside words) ps in
    let one = S.get_pair k.environment (set_aside words) p (size_of rest) in (
      (numbers_are p.formats c.0 c.1, knows p.formats c.0 (l.named (formats_datum p.formats) (inl refl))),
      lists_listed words s k knows ps (i + size_of one) a.1 (back_of one rest l),
    )

items_targeted :
    (words : ℕ) (s : Scope) (k : Block) (labels : List Label) (line most : ℕ) → MayBeSet s words → KnowsPuts s k most →
    KnowsReads s k most → (is : List Y.GetItem) → are_get_items s is ≡ true →
    AreTargets (setting_around words k labels line most) 0 (targets_of is)
unfolding targets_of
items_targeted words s k labels line most may writes reads [] h = tt
items_targeted words s k labels line most may writes reads (Y.GetScalar r ∷ is) h =
    let a = and_parts (is_variable s r) (are_get_items s is) h in
    let v = variable_is s r a.0 in
    let u = setting_around words k labels line most in (
      λ place.
          let n = writes.numbers words may place labels line in
          subst (IsTarget (within place u) 0) (sym v.is)
          (number_target (within place u) v.spot 0 n.begun (n.variables v.spot v.known) reads.program),
      items_targeted words s k labels line most may writes reads is a.1,
    )
items_targeted words s k labels line most may writes reads (Y.GetAggregate r ∷ is) h = absurd (cc h)

lists_targeted :
    (words : ℕ) (s : Scope) (k : Block) (labels : List Label) (line most : ℕ) → MayBeSet s words → KnowsPuts s k most →
    KnowsReads s k most → (ps : List Y.GetPair) → are_get_pairs s ps ≡ true →
    ListsHaveTargets (setting_around words k labels line most) 0 (lists_of ps)
unfolding lists_of
lists_targeted words s k labels line most may writes reads [] h = tt
lists_targeted words s k labels line most may writes reads (p ∷ ps) h =
    let a = and_parts (are_get_items s p.items && by_numbers p) (are_get_pairs s ps) h in
    let b = and_parts (are_get_items s p.items) (by_numbers p) a.0 in (
      items_targeted words s k labels line most may writes reads p.items b.0,
      lists_targeted words s k labels line most may writes reads ps a.1,
    )

-- ---- the statement

pub get_statement_does :
    (words : ℕ) (s : Scope) (k : Block) (labels : List Label) (skip : Option ℕ) (pairs : List Y.GetPair)
    (line index left' most : ℕ) → is_get s skip pairs ≡ true → HasGet words s k skip pairs line index most →
    DoesWith words k labels (Y.Get skip pairs line) index left'
get_statement_does words s k labels skip pairs line index left' most h has =
    let a = and_parts (is_skip skip) ((s.puts && s.reads) && are_get_pairs s pairs) h in
    let b = and_parts (s.puts && s.reads) (are_get_pairs s pairs) a.1 in
    let c = and_parts s.puts s.reads b.0 in
    let writes = has.writes c.0 in
    let reads = has.reads c.1 in
    let same = lists_are s pairs b.1 in
    let x : Get = record { skip = skip; lists = lists_of pairs; line = line } in
    let option = S.skip_option 0 skip in
    let lists = S.get_pairs k.environment (set_aside words) pairs in
    let l = front_of lists edit_ended
    (back_of option (lists ++ edit_ended) (back_of (act_code line) (option ++ (lists ++ edit_ended)) has.statement)) in
    subst (λ ps. DoesWith words k labels (Y.Get skip ps line) index left') same
    (get_does words k labels x index left' 0 most
    (record {
      act = has.act;
      skip = skip_is skip a.0;
      lists = lists_listed words s k writes.lists pairs (index + size_of (act_code line) + size_of option) b.1 l;
      registers = omega arith;
      held = has.held;
      endfile = λ place. reads.endfile words has.may place labels line;
      error = λ place. reads.error words has.may place labels line;
      statement =
          subst (λ ps. Linked k.call.surroundings.links k.call.code index
          (stmt_code k.environment (set_aside words) (Y.Get skip ps line))) (sym same) has.statement;
      paid = subst (λ ps. size_with words k (Y.Get skip ps line) + most ≤ cost k.call.code) (sym same) has.paid;
    })
    (lists_targeted words s k labels line most has.may writes reads pairs b.1))

-- ---- what is known where no unit is in force

pub reads_known :
    (s : Scope) (k : Block) (most : ℕ) → IsUnraised k most → IsSystem (force k.first.state.activations C.Endfile) →
    k.around.program ≡ k.environment.program → KnowsReads s k most
reads_known s k most u endfile program =
    let few = u.few in
    record {
      program = program;
      endfile = λ words may place labels line.
          endfile_ends (within place (setting_around words k labels line most))
          (record { routines = u.routines; endfile = endfile; error = u.error; acts = u.acts; most = u.few });
      error = λ words may place labels line.
          error_ends ℤ (within place (setting_around words k labels line most)) (record {
            routines = u.routines;
            raises = u.place;
            error = u.error;
            acts = u.acts;
            most = omega (arith, few);
          });
    }
