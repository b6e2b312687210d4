-- The worked row with jumps and arguments: it is computed from its tree.
use Rattle.std.proofs.Common.{◌≡◌, ℕ, zero, suc, ◌^◌, ◌≤◌, ◌<◌, List, [], ◌∷◌, Some, None, refl, subst, inl, inr, arith}
use Rattle.std.specs.Prelude.{slice_get}
use Rattle.pli_language.specs.Formats.{Putting, format_moves_data, formats_move_data}
use Rattle.pli_typing.specs.TypedTree as Y
use Rattle.pli_meaning.specs.DeclaredShapes.{declared_variable}
use Rattle.pli_meaning.specs.declared.outcome.End.TheVariants as E
use Rattle.pli_meaning.specs.Control as F
use Rattle.pli_meaning.specs.Evaluating as V
use Rattle.pli_meaning.specs.Executing as M
use Rattle.pli_meaning.specs.Making as K
use Rattle.pli_meaning.specs.Placing as P
use Rattle.pli_meaning.specs.Raising as R
use Rattle.pli_meaning.specs.Streaming as S
use Rattle.pli_coding.specs.Images.{code_of, picture_of}
use Rattle.pli_coding.specs.Linking.{links_of}
use Rattle.well_formed_trees.specs.Blocks.{times}
use Rattle.well_formed_trees.specs.Declarations.{SoundVariable}
use Rattle.well_formed_trees.specs.Expressions.{IsScalarParameter, Passes, SoundNumber}
use Rattle.well_formed_trees.specs.Ranges.{IsFormatList}
use Rattle.well_formed_trees.specs.References.{Designates, IsScalar}
use Rattle.well_formed_trees.specs.Statements.{SoundStmt}
use Rattle.well_formed_trees.specs.Surroundings.{Around, IsAround, Returns, Table, Where}
use Rattle.well_formed_trees.specs.WellFormed.{AreNested, AreNumbered, DeclaresSound, IsBehind, IsEntry, IsWellFormed}
use Rattle.well_formed_trees.specs.WellFormed.{SoundProcedure}
use Rattle.storage_relation.proofs.Holders.{eqb-other}
use Rattle.run_steps.proofs.Linking.{linked_length}
use Rattle.expression_runs.specs.Variables.{Spot, number_declared, variable_of, whole}
use Rattle.argument_runs.specs.Parameters.{parameter, parameter_declared}
use Rattle.pli_headline.specs.Headline.{FitsMemory, parts}
use Rattle.number_headlines.specs.CallRows.{head_at}
use Rattle.number_headlines.specs.Headlines.{IsNumberProgram}
use Rattle.number_headlines.specs.QuestRows.{quest_body, quest_call, quest_formats, quest_label, quest_main}
use Rattle.number_headlines.specs.QuestRows.{quest_program, quest_spot, seek_body, seek_function, seek_next, seek_spot}
use Rattle.number_headlines.specs.QuestRows.{seek_value}

-- ---- it is well formed

abbrev main_entry : Around
main_entry = record { number = 1; level = 0; outermost = quest_label ∷ []; inner = [] }

abbrev seek_entry : Around
seek_entry = record { number = 2; level = 1; outermost = []; inner = [] }

abbrev table : Table
table = [] ∷ (main_entry ∷ []) ∷ (seek_entry ∷ main_entry ∷ []) ∷ []

abbrev in_main : Where
in_main = record { program = quest_program; table = table; around = main_entry ∷ []; returning = Returns None }

abbrev in_seek : Where
in_seek =
    record {
      program = quest_program;
      table = table;
      around = seek_entry ∷ main_entry ∷ [];
      returning = Returns (Some (Y.FixedLeaf 31));
    }

-- ---- variables

record Names (w : Where) (x : Spot) : Type 0 where
  found : declared_variable w.program (variable_of x) ≡ Some (number_declared [])
  around : IsAround x.block x.level w.around

abbrev designated : (w : Where) (x : Spot) → Names w x → Designates w (whole x)
designated w x n = record {
  d = number_declared [];
  declared = record { found = n.found; same_class = refl; block_around = n.around };
  dimensions = 0;
  member = record { place = 0; dimensions_are = refl; part_is = refl; some = omega arith; within = omega arith };
  subscripted = inl refl;
}

scalar : (w : Where) (x : Spot) → Names w x → IsScalar w (Y.FixedLeaf 31) (whole x)
scalar w x n = record {
  designates = designated w x n;
  leaf = record { type = Y.FixedLeaf 31; bounds = []; initial = [] };
  one = record { one = refl; leaf_is = refl };
  type_is = refl;
  many = refl;
}

value : (w : Where) (x : Spot) → Names w x → SoundNumber w (Y.NumberIn (whole x))
value w x n = (record { precision = 31; scalar = scalar w x n }, (designated w x n, (tt, (tt, tt))))

assigned :
    (w : Where) (x : Spot) (source : Y.Number) (line : ℕ) → Names w x → SoundNumber w source → line < 2 ^ 31 →
    SoundStmt w (Y.Assign (whole x) (Y.StoredNumber 31 source) line)
assigned w x source line n sound less = (
  record { type = Y.FixedLeaf 31; scalar = scalar w x n; fits = refl },
  (
    (designated w x n, (tt, (tt, tt))),
    (((omega arith, omega arith), sound), less),
  ),
)

main_names : Names in_main (quest_spot 0)
main_names = record { found = refl; around = inl (refl, refl) }

count_names : Names in_main (quest_spot 1)
count_names = record { found = refl; around = inl (refl, refl) }

seek_names : Names in_seek (quest_spot 0)
seek_names = record { found = refl; around = inr (inl (refl, refl)) }

abbrev given_is : Designates in_seek (parameter seek_spot)
given_is = record {
  d = parameter_declared;
  declared = record { found = refl; same_class = refl; block_around = inl (refl, refl) };
  dimensions = 0;
  member = record { place = 0; dimensions_are = refl; part_is = refl; some = omega arith; within = omega arith };
  subscripted = inl refl;
}

given_scalar : IsScalar in_seek (Y.FixedLeaf 31) (parameter seek_spot)
given_scalar = record {
  designates = given_is;
  leaf = record { type = Y.FixedLeaf 31; bounds = []; initial = [] };
  one = record { one = refl; leaf_is = refl };
  type_is = refl;
  many = refl;
}

given_value : SoundNumber in_seek seek_value
given_value = (record { precision = 31; scalar = given_scalar }, (given_is, (tt, (tt, tt))))

-- ---- calls

taken : IsScalarParameter parameter_declared (Y.FixedLeaf 31)
taken = record {
  leaf = record { type = Y.FixedLeaf 31; bounds = []; initial = [] };
  one = refl;
  type_is = refl;
  none = refl;
}

count_passes : Passes in_main parameter_declared (whole (quest_spot 1))
count_passes = record {
  given = record { designates = designated in_main (quest_spot 1) count_names; all = refl; none = refl };
  taken = refl;
}

main_calls : SoundNumber in_main quest_call
main_calls = (
  (seek_function, refl, tt),
  (
    record {
      procedure = seek_function;
      is = record {
        found = refl;
        level_is = refl;
        kind = refl;
        own = seek_entry;
        holder = main_entry;
        outer = [];
        entry = refl;
        holder_around = inl (refl, refl);
      };
      passed = ((parameter_declared, refl, count_passes), tt);
    },
    ((designated in_main (quest_spot 1) count_names, (tt, (tt, tt))), tt),
  ),
)

seek_calls : SoundNumber in_seek seek_next
seek_calls = (
  (seek_function, refl, tt),
  (
    record {
      procedure = seek_function;
      is = record {
        found = refl;
        level_is = refl;
        kind = refl;
        own = seek_entry;
        holder = main_entry;
        outer = [];
        entry = refl;
        holder_around = inr (inl (refl, refl));
      };
      passed = ((parameter_declared, refl, (taken, refl)), tt);
    },
    (((omega arith, omega arith), (given_value, omega arith)), tt),
  ),
)

-- ---- procedures

quest_format : IsFormatList Putting quest_formats
unfolding formats_move_data format_moves_data
quest_format = record {
  formats_are = (
    (omega arith, omega arith),
    (tt, ((omega arith, omega arith), ((omega arith, omega arith), tt))),
  );
  moves_data = refl;
}

main_sound : SoundProcedure table quest_program quest_main
main_sound = record {
  head = head_at 1 0 1;
  body = quest_body;
  is = refl;
  kind = refl;
  line = omega arith;
  outer = [];
  held = refl;
  listed = refl;
  statements = (
    (
      (
        (scalar in_main (quest_spot 1) count_names, (designated in_main (quest_spot 1) count_names, (tt, (tt, tt)))),
        (((omega arith, omega arith), omega arith), (omega arith, omega arith)),
      ),
      (
        tt,
        (
          (assigned in_main (quest_spot 0) quest_call 8 main_names main_calls (omega arith), tt),
          omega arith,
        ),
      ),
    ),
    (
      (
        tt,
        (
          (
            (quest_format, (omega arith, (((omega arith, omega arith), value in_main (quest_spot 0) main_names), tt))),
            tt,
          ),
          omega arith,
        ),
      ),
      tt,
    ),
  );
  labels = ((refl, tt), ((tt, tt), (tt, tt)));
  parameters = tt;
  apart = tt;
  result = tt;
}

seek_sound : SoundProcedure table quest_program seek_function
seek_sound = record {
  head = head_at 2 1 2;
  body = seek_body;
  is = refl;
  kind = refl;
  line = omega arith;
  outer = main_entry ∷ [];
  held = (refl, refl);
  listed = refl;
  statements = (
    assigned in_seek (quest_spot 0) seek_value 3 seek_names given_value (omega arith),
    (
      (
        (((given_value, given_value), omega arith), omega arith),
        ((inr (inl (refl, refl)), omega arith), omega arith),
      ),
      (
        (
          refl,
          (refl, (((omega arith, omega arith), seek_calls), omega arith)),
        ),
        tt,
      ),
    ),
  );
  labels = (tt, (tt, (tt, (tt, tt))));
  parameters = (record { d = parameter_declared; found = refl; class_is = refl }, tt);
  apart = (refl, tt);
  result = (omega arith, omega arith);
}

quest_entries : (number : ℕ) → 1 ≤ number → number < 3 → IsEntry table number
quest_entries zero low high = absurd (omega (arith, low))
quest_entries (suc zero) low high =
    record { own = main_entry; outer = []; entry = refl; number_is = refl; shallow = omega arith }
quest_entries (suc (suc zero)) low high =
    record { own = seek_entry; outer = main_entry ∷ []; entry = refl; number_is = refl; shallow = omega arith }
quest_entries (suc (suc (suc n))) low high = absurd (omega (arith, high))

-- between the main procedure and the one in it stands that
none_between :
    (high m : ℕ) (a : Around) (more : List Around) → high < 3 → 1 < m → m ≤ high →
    slice_get table m ≡ Some (a ∷ more) → 0 < a.level
none_between high zero a more few low within e = absurd (omega (arith, low))
none_between high (suc zero) a more few low within e = absurd (omega (arith, low))
none_between high (suc (suc zero)) a more few low within e =
    let is : seek_entry ≡ a = cc e in
    subst (λ (x : Around). 0 < x.level) is (omega arith)
none_between high (suc (suc (suc n))) a more few low within e = absurd (omega (arith, few, within))

quest_nested : AreNested table
quest_nested zero own outer e = absurd (cc e)
quest_nested (suc zero) own outer e =
    let is : [] ≡ outer = cc e in
    subst (λ os. IsBehind table 1 os) is tt
quest_nested (suc (suc zero)) own outer e =
    let is : main_entry ∷ [] ≡ outer = cc e in
    subst (λ os. IsBehind table 2 os) is
    (omega arith, λ m a more low high at. none_between 2 m a more (omega arith) low high at)
quest_nested (suc (suc (suc n))) own outer e = absurd (cc e)

quest_numbers : AreNumbered 3 (1 ∷ 2 ∷ [])
quest_numbers = record { once = once; none = none; not_outermost = refl }
  where
    once : (n : ℕ) → 1 ≤ n → n < 3 → times n (1 ∷ 2 ∷ []) ≡ 1
    once zero low high = absurd (omega (arith, low))
    once (suc zero) low high = refl
    once (suc (suc zero)) low high = refl
    once (suc (suc (suc n))) low high = absurd (omega (arith, high))

    none : (n : ℕ) → 3 ≤ n → times n (1 ∷ 2 ∷ []) ≡ 0
    none n low =
        simp (eqb-other n 1 (λ e. omega (arith, e, low)), eqb-other n 2 (λ e. omega (arith, e, low))) refl

number_sound : (w : Where) (index : ℕ) → SoundVariable w index (number_declared [])
number_sound w index = record {
  members = (refl, tt);
  many = refl;
  dimensions = (refl, tt);
  leaves = (record { type_is = (omega arith, omega arith); bounds_are = tt; few = omega arith; initial_is = tt }, tt);
  areas = inl (tt, tt);
  refer = tt;
  kept = ((λ k. k, tt), tt);
  evaluations = tt;
}

parameter_sound : (w : Where) (index : ℕ) → SoundVariable w index parameter_declared
parameter_sound w index = record {
  members = (refl, tt);
  many = refl;
  dimensions = (refl, tt);
  leaves = (record { type_is = (omega arith, omega arith); bounds_are = tt; few = omega arith; initial_is = tt }, tt);
  areas = inl (tt, tt);
  refer = tt;
  kept = ((λ k. k, tt), tt);
  evaluations = tt;
}

quest_declares : (number : ℕ) → DeclaresSound table quest_program number
quest_declares zero around e = tt
quest_declares (suc zero) around e = (number_sound _ 0, (number_sound _ 1, tt))
quest_declares (suc (suc zero)) around e = (parameter_sound _ 0, tt)
quest_declares (suc (suc (suc n))) around e = absurd (cc e)

quest_well : IsWellFormed quest_program
quest_well = record {
  table = table;
  main = (refl, (refl, (omega arith, tt)));
  numbers = quest_numbers;
  entries = quest_entries;
  nested = quest_nested;
  procedures = (main_sound, (seek_sound, tt));
  lists = refl;
  outermost = refl;
  variables = quest_declares;
}

-- ---- it is of the class

pub quest_program_is : IsNumberProgram quest_program
quest_program_is = record { well_formed = quest_well; numbers = refl }

pub quest_fits : FitsMemory (picture_of parts quest_program)
quest_fits =
    let n = linked_length (links_of (code_of parts quest_program)) 0 (code_of parts quest_program) in
    record { code_fits = omega (arith, n); statics_fit = omega arith }

-- ---- what it comes to

unfoldable flows : Unit {0}
unfolding F.give F.◌>>=◌ F.◌>>◌ F.looked F.stored F.act F.finish F.returns F.jumps F.choose F.given F.list_from
    F.leaving F.repeated_while M.met_after_act
flows = tt

unfoldable values : Unit {0}
unfolding V.number V.bit V.text V.designated V.located V.numbers V.variable_designated V.part_designated V.stored_value
    R.or_error R.demanded R.value_of R.raised R.unit_run R.error R.error_unit_run P.element_stored M.assigned
values = tt

unfoldable writings : Unit {0}
unfolding S.put S.pairs_put S.items_put S.item_put S.next_item S.controls S.control_put S.shown_by V.computational
writings = tt

unfoldable calls : Unit {0}
unfolding V.called V.arguments V.argument V.all_passed_last V.passed_last V.procedure_entered V.returned
calls = tt

unfoldable makings : Unit {0}
unfolding K.variables_made K.automatic_made K.extents K.variable_made K.parameter_bound K.parameters_bound
makings = tt

unfoldable statements : Unit {0}
unfolding M.statement M.statements M.list M.list_with M.block_variables_made M.entry_act M.block_list M.block_body
    M.turn_due M.within_limit M.condition_met M.counter_number M.counter_value M.counter_started M.stepped M.limit_of
statements = tt

pub quest_ends :
    (input : List ℕ) →
    M.meaning quest_program input 20
    ≡ Some (record { acts = 20; output = 78 ∷ 61 ∷ 32 ∷ 52 ∷ 10 ∷ []; raised = []; end = E.Finished })
unfolding M.meaning M.run M.entered M.block_run flows values writings calls makings statements
quest_ends input = refl
