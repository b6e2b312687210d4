-- The worked row with arguments by reference: it is computed from its tree.
use Rattle.std.proofs.Common.{◌≡◌, ℕ, zero, suc, ◌≤◌, ◌<◌, List, [], ◌∷◌, Some, None, refl, subst, inl, inr, arith}
use Rattle.std.specs.Prelude.{slice_get}
use Rattle.pli_language.specs.Formats.{Putting, format_moves_data, formats_move_data}
use Rattle.pli_typing.specs.TypedTree as Y
use Rattle.pli_meaning.specs.declared.outcome.End.TheVariants as E
use Rattle.pli_meaning.specs.Control as F
use Rattle.pli_meaning.specs.Evaluating as V
use Rattle.pli_meaning.specs.Executing as M
use Rattle.pli_meaning.specs.Making as K
use Rattle.pli_meaning.specs.Placing as P
use Rattle.pli_meaning.specs.Raising as R
use Rattle.pli_meaning.specs.Streaming as S
use Rattle.pli_coding.specs.Images.{code_of, picture_of}
use Rattle.pli_coding.specs.Linking.{links_of}
use Rattle.well_formed_trees.specs.Blocks.{times}
use Rattle.well_formed_trees.specs.Declarations.{SoundVariable}
use Rattle.well_formed_trees.specs.Expressions.{Passes}
use Rattle.well_formed_trees.specs.Ranges.{IsFormatList}
use Rattle.well_formed_trees.specs.References.{Designates, IsNumberScalar, IsScalar}
use Rattle.well_formed_trees.specs.Surroundings.{Around, Returns, Table, Where}
use Rattle.well_formed_trees.specs.WellFormed.{AreNested, AreNumbered, DeclaresSound, IsBehind, IsEntry, IsWellFormed}
use Rattle.well_formed_trees.specs.WellFormed.{SoundProcedure}
use Rattle.storage_relation.proofs.Holders.{eqb-other}
use Rattle.run_steps.proofs.Linking.{linked_length}
use Rattle.expression_runs.specs.Variables.{number_declared, whole}
use Rattle.argument_runs.specs.Parameters.{parameter, parameter_declared}
use Rattle.pli_headline.specs.Headline.{FitsMemory, parts}
use Rattle.number_headlines.specs.EuclidRows.{divided_body, divided_formats, divided_main, divided_program}
use Rattle.number_headlines.specs.EuclidRows.{divided_spot, euclid_body, euclid_procedure, euclid_spot, head_at}
use Rattle.number_headlines.specs.Headlines.{IsNumberProgram}

-- ---- it is well formed

abbrev main_entry : Around
main_entry = record { number = 1; level = 0; outermost = []; inner = [] }

abbrev euclid_entry : Around
euclid_entry = record { number = 2; level = 1; outermost = []; inner = [] }

abbrev table : Table
table = [] ∷ (main_entry ∷ []) ∷ (euclid_entry ∷ main_entry ∷ []) ∷ []

abbrev in_main : Where
in_main = record { program = divided_program; table = table; around = main_entry ∷ []; returning = Returns None }

abbrev in_euclid : Where
in_euclid =
    record {
      program = divided_program;
      table = table;
      around = euclid_entry ∷ main_entry ∷ [];
      returning = Returns None;
    }

abbrev x_is : Designates in_main (whole (divided_spot 0))
x_is = record {
  d = number_declared [];
  declared = record { found = refl; same_class = refl; block_around = inl (refl, refl) };
  dimensions = 0;
  member = record { place = 0; dimensions_are = refl; part_is = refl; some = omega arith; within = omega arith };
  subscripted = inl refl;
}

x_is_scalar : IsScalar in_main (Y.FixedLeaf 31) (whole (divided_spot 0))
x_is_scalar = record {
  designates = x_is;
  leaf = record { type = Y.FixedLeaf 31; bounds = []; initial = [] };
  one = record { one = refl; leaf_is = refl };
  type_is = refl;
  many = refl;
}

x_is_number : IsNumberScalar in_main (whole (divided_spot 0))
x_is_number = record { precision = 31; scalar = x_is_scalar }

x_passes : Passes in_main parameter_declared (whole (divided_spot 0))
x_passes = record { given = record { designates = x_is; all = refl; none = refl }; taken = refl }

abbrev y_is : Designates in_main (whole (divided_spot 1))
y_is = record {
  d = number_declared [];
  declared = record { found = refl; same_class = refl; block_around = inl (refl, refl) };
  dimensions = 0;
  member = record { place = 0; dimensions_are = refl; part_is = refl; some = omega arith; within = omega arith };
  subscripted = inl refl;
}

y_is_scalar : IsScalar in_main (Y.FixedLeaf 31) (whole (divided_spot 1))
y_is_scalar = record {
  designates = y_is;
  leaf = record { type = Y.FixedLeaf 31; bounds = []; initial = [] };
  one = record { one = refl; leaf_is = refl };
  type_is = refl;
  many = refl;
}

y_is_number : IsNumberScalar in_main (whole (divided_spot 1))
y_is_number = record { precision = 31; scalar = y_is_scalar }

y_passes : Passes in_main parameter_declared (whole (divided_spot 1))
y_passes = record { given = record { designates = y_is; all = refl; none = refl }; taken = refl }

abbrev a_is : Designates in_euclid (parameter (euclid_spot 0))
a_is = record {
  d = parameter_declared;
  declared = record { found = refl; same_class = refl; block_around = inl (refl, refl) };
  dimensions = 0;
  member = record { place = 0; dimensions_are = refl; part_is = refl; some = omega arith; within = omega arith };
  subscripted = inl refl;
}

a_is_scalar : IsScalar in_euclid (Y.FixedLeaf 31) (parameter (euclid_spot 0))
a_is_scalar = record {
  designates = a_is;
  leaf = record { type = Y.FixedLeaf 31; bounds = []; initial = [] };
  one = record { one = refl; leaf_is = refl };
  type_is = refl;
  many = refl;
}

a_is_number : IsNumberScalar in_euclid (parameter (euclid_spot 0))
a_is_number = record { precision = 31; scalar = a_is_scalar }

abbrev b_is : Designates in_euclid (parameter (euclid_spot 1))
b_is = record {
  d = parameter_declared;
  declared = record { found = refl; same_class = refl; block_around = inl (refl, refl) };
  dimensions = 0;
  member = record { place = 0; dimensions_are = refl; part_is = refl; some = omega arith; within = omega arith };
  subscripted = inl refl;
}

b_is_scalar : IsScalar in_euclid (Y.FixedLeaf 31) (parameter (euclid_spot 1))
b_is_scalar = record {
  designates = b_is;
  leaf = record { type = Y.FixedLeaf 31; bounds = []; initial = [] };
  one = record { one = refl; leaf_is = refl };
  type_is = refl;
  many = refl;
}

b_is_number : IsNumberScalar in_euclid (parameter (euclid_spot 1))
b_is_number = record { precision = 31; scalar = b_is_scalar }

b_passes : Passes in_euclid parameter_declared (parameter (euclid_spot 1))
b_passes = record { given = record { designates = b_is; all = refl; none = refl }; taken = refl }

abbrev r_is : Designates in_euclid (whole (euclid_spot 2))
r_is = record {
  d = number_declared [];
  declared = record { found = refl; same_class = refl; block_around = inl (refl, refl) };
  dimensions = 0;
  member = record { place = 0; dimensions_are = refl; part_is = refl; some = omega arith; within = omega arith };
  subscripted = inl refl;
}

r_is_scalar : IsScalar in_euclid (Y.FixedLeaf 31) (whole (euclid_spot 2))
r_is_scalar = record {
  designates = r_is;
  leaf = record { type = Y.FixedLeaf 31; bounds = []; initial = [] };
  one = record { one = refl; leaf_is = refl };
  type_is = refl;
  many = refl;
}

r_is_number : IsNumberScalar in_euclid (whole (euclid_spot 2))
r_is_number = record { precision = 31; scalar = r_is_scalar }

r_passes : Passes in_euclid parameter_declared (whole (euclid_spot 2))
r_passes = record { given = record { designates = r_is; all = refl; none = refl }; taken = refl }

divided_format : IsFormatList Putting divided_formats
unfolding formats_move_data format_moves_data
divided_format = record {
  formats_are = ((omega arith, omega arith), ((omega arith, omega arith), tt));
  moves_data = refl;
}

main_sound : SoundProcedure table divided_program divided_main
main_sound = record {
  head = head_at 1 0 1;
  body = divided_body;
  is = refl;
  kind = refl;
  line = omega arith;
  outer = [];
  held = refl;
  listed = refl;
  statements = (
    (
      record { type = Y.FixedLeaf 31; scalar = x_is_scalar; fits = refl },
      ((x_is, (tt, (tt, tt))), (((omega arith, omega arith), omega arith), omega arith)),
    ),
    (
      (
        record { type = Y.FixedLeaf 31; scalar = y_is_scalar; fits = refl },
        ((y_is, (tt, (tt, tt))), (((omega arith, omega arith), omega arith), omega arith)),
      ),
      (
        (
          (euclid_procedure, refl, refl),
          (
            (
              record {
                procedure = euclid_procedure;
                is = record {
                  found = refl;
                  level_is = refl;
                  kind = refl;
                  own = euclid_entry;
                  holder = main_entry;
                  outer = [];
                  entry = refl;
                  holder_around = inl (refl, refl);
                };
                passed = ((parameter_declared, refl, x_passes), ((parameter_declared, refl, y_passes), tt));
              },
              ((x_is, (tt, (tt, tt))), ((y_is, (tt, (tt, tt))), tt)),
            ),
            omega arith,
          ),
        ),
        (
          (
            tt,
            (
              (
                (divided_format, (((omega arith, omega arith), (x_is_number, (x_is, (tt, (tt, tt))))), tt)),
                tt,
              ),
              omega arith,
            ),
          ),
          tt,
        ),
      ),
    ),
  );
  labels = (tt, (tt, (tt, (tt, (tt, tt)))));
  parameters = tt;
  apart = tt;
  result = tt;
}

euclid_sound : SoundProcedure table divided_program euclid_procedure
euclid_sound = record {
  head = head_at 2 1 2;
  body = euclid_body;
  is = refl;
  kind = refl;
  line = omega arith;
  outer = main_entry ∷ [];
  held = (refl, refl);
  listed = refl;
  statements = (
    (((b_is_number, (b_is, (tt, (tt, tt)))), omega arith), ((refl, omega arith), omega arith)),
    (
      (
        record { type = Y.FixedLeaf 31; scalar = r_is_scalar; fits = refl },
        (
          (r_is, (tt, (tt, tt))),
          (
            (
              (omega arith, omega arith),
              ((a_is_number, (a_is, (tt, (tt, tt)))), (b_is_number, (b_is, (tt, (tt, tt))))),
            ),
            omega arith,
          ),
        ),
      ),
      (
        (
          (euclid_procedure, refl, refl),
          (
            (
              record {
                procedure = euclid_procedure;
                is = record {
                  found = refl;
                  level_is = refl;
                  kind = refl;
                  own = euclid_entry;
                  holder = main_entry;
                  outer = [];
                  entry = refl;
                  holder_around = inr (inl (refl, refl));
                };
                passed = ((parameter_declared, refl, b_passes), ((parameter_declared, refl, r_passes), tt));
              },
              ((b_is, (tt, (tt, tt))), ((r_is, (tt, (tt, tt))), tt)),
            ),
            omega arith,
          ),
        ),
        (
          (
            record { type = Y.FixedLeaf 31; scalar = a_is_scalar; fits = refl },
            (
              (a_is, (tt, (tt, tt))),
              (((omega arith, omega arith), (b_is_number, (b_is, (tt, (tt, tt))))), omega arith),
            ),
          ),
          tt,
        ),
      ),
    ),
  );
  labels = (tt, (tt, (tt, (tt, (tt, tt)))));
  parameters = (
    record { d = parameter_declared; found = refl; class_is = refl },
    (record { d = parameter_declared; found = refl; class_is = refl }, tt),
  );
  apart = (refl, (refl, tt));
  result = tt;
}

divided_entries : (number : ℕ) → 1 ≤ number → number < 3 → IsEntry table number
divided_entries zero low high = absurd (omega (arith, low))
divided_entries (suc zero) low high =
    record { own = main_entry; outer = []; entry = refl; number_is = refl; shallow = omega arith }
divided_entries (suc (suc zero)) low high =
    record { own = euclid_entry; outer = main_entry ∷ []; entry = refl; number_is = refl; shallow = omega arith }
divided_entries (suc (suc (suc n))) low high = absurd (omega (arith, high))

-- between the main procedure and the one in it stands that
none_between :
    (high m : ℕ) (a : Around) (more : List Around) → high < 3 → 1 < m → m ≤ high →
    slice_get table m ≡ Some (a ∷ more) → 0 < a.level
none_between high zero a more few low within e = absurd (omega (arith, low))
none_between high (suc zero) a more few low within e = absurd (omega (arith, low))
none_between high (suc (suc zero)) a more few low within e =
    let is : euclid_entry ≡ a = cc e in
    subst (λ (x : Around). 0 < x.level) is (omega arith)
none_between high (suc (suc (suc n))) a more few low within e = absurd (omega (arith, few, within))

divided_nested : AreNested table
divided_nested zero own outer e = absurd (cc e)
divided_nested (suc zero) own outer e =
    let is : [] ≡ outer = cc e in
    subst (λ os. IsBehind table 1 os) is tt
divided_nested (suc (suc zero)) own outer e =
    let is : main_entry ∷ [] ≡ outer = cc e in
    subst (λ os. IsBehind table 2 os) is
    (omega arith, λ m a more low high at. none_between 2 m a more (omega arith) low high at)
divided_nested (suc (suc (suc n))) own outer e = absurd (cc e)

divided_numbers : AreNumbered 3 (1 ∷ 2 ∷ [])
divided_numbers = record { once = once; none = none; not_outermost = refl }
  where
    once : (n : ℕ) → 1 ≤ n → n < 3 → times n (1 ∷ 2 ∷ []) ≡ 1
    once zero low high = absurd (omega (arith, low))
    once (suc zero) low high = refl
    once (suc (suc zero)) low high = refl
    once (suc (suc (suc n))) low high = absurd (omega (arith, high))

    none : (n : ℕ) → 3 ≤ n → times n (1 ∷ 2 ∷ []) ≡ 0
    none n low =
        simp (eqb-other n 1 (λ e. omega (arith, e, low)), eqb-other n 2 (λ e. omega (arith, e, low))) refl

number_sound : (w : Where) (index : ℕ) → SoundVariable w index (number_declared [])
number_sound w index = record {
  members = (refl, tt);
  many = refl;
  dimensions = (refl, tt);
  leaves = (record { type_is = (omega arith, omega arith); bounds_are = tt; few = omega arith; initial_is = tt }, tt);
  areas = inl (tt, tt);
  refer = tt;
  kept = ((λ k. k, tt), tt);
  evaluations = tt;
}

parameter_sound : (w : Where) (index : ℕ) → SoundVariable w index parameter_declared
parameter_sound w index = record {
  members = (refl, tt);
  many = refl;
  dimensions = (refl, tt);
  leaves = (record { type_is = (omega arith, omega arith); bounds_are = tt; few = omega arith; initial_is = tt }, tt);
  areas = inl (tt, tt);
  refer = tt;
  kept = ((λ k. k, tt), tt);
  evaluations = tt;
}

divided_declares : (number : ℕ) → DeclaresSound table divided_program number
divided_declares zero around e = tt
divided_declares (suc zero) around e = (number_sound _ 0, (number_sound _ 1, tt))
divided_declares (suc (suc zero)) around e = (parameter_sound _ 0, (parameter_sound _ 1, (number_sound _ 2, tt)))
divided_declares (suc (suc (suc n))) around e = absurd (cc e)

divided_well : IsWellFormed divided_program
divided_well = record {
  table = table;
  main = (refl, (refl, (omega arith, tt)));
  numbers = divided_numbers;
  entries = divided_entries;
  nested = divided_nested;
  procedures = (main_sound, (euclid_sound, tt));
  lists = refl;
  outermost = refl;
  variables = divided_declares;
}

-- ---- it is of the class

pub divided_program_is : IsNumberProgram divided_program
divided_program_is = record { well_formed = divided_well; numbers = refl }

pub divided_fits : FitsMemory (picture_of parts divided_program)
divided_fits =
    let n = linked_length (links_of (code_of parts divided_program)) 0 (code_of parts divided_program) in
    record { code_fits = omega (arith, n); statics_fit = omega arith }

-- ---- what it comes to

unfoldable flows : Unit {0}
unfolding F.give F.◌>>=◌ F.◌>>◌ F.looked F.stored F.act F.finish F.returns F.jumps F.choose F.given F.list_from
    F.leaving F.repeated_while M.met_after_act
flows = tt

unfoldable values : Unit {0}
unfolding V.number V.bit V.designated V.located V.numbers V.variable_designated V.part_designated V.stored_value
    R.or_error R.demanded R.value_of R.raised R.unit_run R.error R.error_unit_run P.element_stored M.assigned
values = tt

unfoldable writings : Unit {0}
unfolding S.put S.pairs_put S.items_put S.item_put S.next_item S.controls S.control_put S.shown_by V.computational
writings = tt

unfoldable calls : Unit {0}
unfolding V.called V.arguments V.argument V.all_passed_last V.passed_last V.procedure_entered V.returned
calls = tt

unfoldable makings : Unit {0}
unfolding K.variables_made K.automatic_made K.extents K.variable_made K.parameter_bound K.parameters_bound
makings = tt

unfoldable statements : Unit {0}
unfolding M.statement M.statements M.list M.list_with M.block_variables_made M.entry_act M.block_list M.block_body
    M.turn_due M.within_limit M.condition_met M.counter_number M.counter_value M.counter_started M.stepped M.limit_of
statements = tt

pub divided_ends :
    (input : List ℕ) →
    M.meaning divided_program input 25
    ≡ Some (record { acts = 25; output = 32 ∷ 54 ∷ 10 ∷ []; raised = []; end = E.Finished })
unfolding M.meaning M.run M.entered M.block_run flows values writings calls makings statements
divided_ends input = refl
