-- The row of a structure that has no offset in the area.
use Rattle.std.proofs.Common.{ℕ, ◌+◌, [], ◌∷◌, ◌++◌, ◌∙◌, refl, arith, ◌<◌, List, inl, inr, map, ◌^◌, ◌≤◌, length}
use Rattle.pli_coding.specs.Allocating.{act_code}
use Rattle.pli_coding.specs.Assembly.{Code, Mark, ProcedureEntry, ReturnPlace, size_of, CallTo}
use Rattle.pli_coding.specs.Environments.{none_taken}
use Rattle.pli_coding.specs.Expressions.{bit_code}
use Rattle.pli_coding.specs.Images.{linked_code, raise_code, picture_of, first_frame}
use Rattle.pli_coding.specs.Linking.{data_start, links_of}
use Rattle.pli_coding.specs.StaticData.{static_data}
use Rattle.pli_coding.specs.Statements.{stmt_code, stmts_code}
use Rattle.code_marks.proofs.DataOnce.{placed_same, static_has}
use Rattle.run_steps.specs.Items.{Linked}
use Rattle.run_steps.proofs.Jumps.{back_of, front_of, rest_of, first_of}
use Rattle.run_steps.proofs.Linking.{has_items, linked_length}
use Rattle.program_places.specs.Programs.{code_for, Run, image_for}
use Rattle.program_places.proofs.Marks.{named_has}
use Rattle.program_runs.specs.Procedures.{begin_of, end_of, procedure_code}
use Rattle.program_runs.specs.Starts.{start_of, Image, image_parts, no_numbers, start_point, surroundings_of}
use Rattle.program_runs.specs.Starts.{main_called}
use Rattle.pli_serving.specs.Templates.{template_of}
use Rattle.pli_coding.specs.SignatureTable.{table_of}
use Rattle.storage_relation.specs.Served.{AllDiffer}
use Rattle.storage_relation.proofs.TableSignatures.{table_differs, table_once}
use Rattle.pli_headline.specs.Headline.{FitsMemory, parts}
use Rattle.program_runs.specs.Calls.{block_at, body_index, left_over}
use Rattle.program_runs.specs.Programs.{Whole, main_of, IsWhole}
use Rattle.program_runs.specs.Statements.{Block, IsBegun, Does, EachDoes}
use Rattle.program_runs.specs.Variables.{Declared, generation_for}
use Rattle.expression_runs.specs.Variables.{whole}
use Rattle.variable_runs.specs.Known.{IsKnown}
use Rattle.variable_runs.specs.Lists.{AreAll, newest_all}
use Rattle.variable_runs.proofs.Known.{known_own}
use Rattle.area_runs.specs.Allocations.{HasArea, allocation}
use Rattle.area_runs.specs.Based.{pointer_declared, Ends}
use Rattle.area_runs.proofs.Rows.{pointer_valued}
use Rattle.locator_runs.specs.Pointers.{IsPointer}
use Rattle.member_runs.specs.Members.{IsStructure}
use Rattle.block_headlines.proofs.VariableRuns.{fits}
use Rattle.offset_runs.specs.Offsets.{IsOffsetVariable, offset_declared, Gives}
use Rattle.pli_headline.proofs.WholeSizes.{first_length}
use Rattle.program_places.specs.Constants.{constants_in}
use Rattle.expression_runs.specs.Assignments.{setting_of}
use Rattle.expression_runs.specs.Values.{OverflowComes, Setting}
use Rattle.expression_runs.proofs.Operands.{constant_does}
use Rattle.expression_runs.proofs.Raises.{overflow_ends}
use Rattle.variable_runs.proofs.Lists.{all_procedure}
use Rattle.area_assignments.specs.Copying.{IsCopying}
use Rattle.area_assignments.proofs.Copying.{copy_does}
use Rattle.member_runs.proofs.MemberAssignments.{assign_does}
use Rattle.member_runs.proofs.NewStatements.{allocate_does}
use Rattle.offset_runs.specs.OffsetAddresses.{IsAddressed, offset_of}
use Rattle.offset_runs.specs.OffsetPointers.{IsPointing, pointing}
use Rattle.offset_runs.proofs.Addresses.{address_gives}
use Rattle.offset_runs.proofs.OffsetAssignments.{assign_does as offset_does}
use Rattle.offset_runs.proofs.OffsetValues.{variable_gives}
use Rattle.offset_runs.proofs.PointerAssignments.{point_does}
use Rattle.scalar_runs.specs.Assignments.{IsPlacedWith}
use Rattle.block_headlines.specs.Headlines.{Layout, Runs}
use Rattle.block_headlines.proofs.Constants.{constants_stand}
use Rattle.offset_headlines.specs.Rows.{area_declared, area_spot, node_leaves, node_members, node_spot, of_area}
use Rattle.offset_headlines.specs.Rows.{offset_spot, pointer_spot, twin_spot, value_member, area_made, pointer_made}
use Rattle.offset_headlines.specs.Rows.{twin_made, offset_made}
use Rattle.offset_headlines.specs.Strays.{stray_allocate, stray_name, stray_copy, stray_follow, stray_change}
use Rattle.offset_headlines.specs.Strays.{stray_again, stray_2, stray_3, stray_4, stray_5, stray_6, stray_body}
use Rattle.offset_headlines.specs.Strays.{stray_program, stray_environment, stray_main, stray_entry}
use Rattle.offset_headlines.proofs.Known.{offset_valued, value_is}
use Rattle.pli_typing.specs.TypedTree as Y
use Rattle.pli_meaning.specs.Making as K
use Rattle.pli_meaning.specs.Pictures as Q
use Rattle.member_runs.specs.Allocations as W
use Rattle.member_runs.specs.MemberAssignments as B
use Rattle.offset_runs.specs.OffsetAssignments as O

abbrev stray_code : Code
stray_code = code_for stray_program

abbrev stray_coded : Code
stray_coded = Mark (ProcedureEntry 0) ∷ procedure_code stray_environment stray_main

abbrev StandsAt : ℕ → Code → Type 0
StandsAt index part = Linked (links_of stray_code) (linked_code stray_code) index part

stray_linked : StandsAt 0 stray_code
stray_linked =
    let n = linked_length (links_of stray_code) 0 stray_code in
    record {
      small' = omega (arith, n);
      inside = omega (arith, n);
      has = has_items (links_of stray_code) stray_code refl;
      named = λ d h.
          placed_same d (data_start stray_code) (static_data stray_code)
          ∙ static_has stray_code d (named_has d stray_code h);
    }

start_linked : StandsAt 0 (start_of 0)
start_linked = front_of (start_of 0) (raise_code ++ stray_coded) stray_linked

raise_linked : StandsAt (size_of (start_of 0)) raise_code
raise_linked = front_of raise_code stray_coded (back_of (start_of 0) (raise_code ++ stray_coded) stray_linked)

main_linked : StandsAt stray_entry (procedure_code stray_environment stray_main)
main_linked =
    rest_of (Mark (ProcedureEntry 0)) (procedure_code stray_environment stray_main)
    (back_of raise_code stray_coded (back_of (start_of 0) (raise_code ++ stray_coded) stray_linked))

-- ---- its statements

abbrev coded : Y.Stmt → Code
coded stmt = stmt_code stray_environment none_taken stmt

abbrev listed : Y.Stmts → Code
listed body = stmts_code stray_environment none_taken body

abbrev tested : Y.Bit → Code
tested x = bit_code stray_environment none_taken x

abbrev stray_start : ℕ
stray_start = stray_entry + size_of (begin_of stray_main) + size_of stray_main.variables + size_of (act_code 1)

abbrev stray_finish : ℕ
stray_finish = stray_start + size_of (listed stray_main.body)

body_linked : StandsAt stray_start (listed stray_main.body)
body_linked =
    let one = act_code 1 in
    let body = listed stray_main.body in
    let tail = Mark (ReturnPlace 0) ∷ end_of stray_main in
    let rest = one ++ (body ++ tail) in
    front_of body tail
    (back_of one (body ++ tail)
    (back_of stray_main.variables rest (back_of (begin_of stray_main) (stray_main.variables ++ rest) main_linked)))

abbrev name_index : ℕ
name_index = stray_start + size_of (coded stray_allocate)

abbrev copy_index : ℕ
copy_index = name_index + size_of (coded stray_name)

abbrev follow_index : ℕ
follow_index = copy_index + size_of (coded stray_copy)

abbrev change_index : ℕ
change_index = follow_index + size_of (coded stray_follow)

abbrev again_index : ℕ
again_index = change_index + size_of (coded stray_change)

allocate_linked : StandsAt stray_start (coded stray_allocate)
allocate_linked = front_of (coded stray_allocate) (listed stray_2) body_linked

linked_2 : StandsAt name_index (listed stray_2)
linked_2 = back_of (coded stray_allocate) (listed stray_2) body_linked

name_linked : StandsAt name_index (coded stray_name)
name_linked = front_of (coded stray_name) (listed stray_3) linked_2

linked_3 : StandsAt copy_index (listed stray_3)
linked_3 = back_of (coded stray_name) (listed stray_3) linked_2

copy_linked : StandsAt copy_index (coded stray_copy)
copy_linked = front_of (coded stray_copy) (listed stray_4) linked_3

linked_4 : StandsAt follow_index (listed stray_4)
linked_4 = back_of (coded stray_copy) (listed stray_4) linked_3

follow_linked : StandsAt follow_index (coded stray_follow)
follow_linked = front_of (coded stray_follow) (listed stray_5) linked_4

linked_5 : StandsAt change_index (listed stray_5)
linked_5 = back_of (coded stray_follow) (listed stray_5) linked_4

change_linked : StandsAt change_index (coded stray_change)
change_linked = front_of (coded stray_change) (listed stray_6) linked_5

linked_6 : StandsAt again_index (listed stray_6)
linked_6 = back_of (coded stray_change) (listed stray_6) linked_5

again_linked : StandsAt again_index (coded stray_again)
again_linked = front_of (coded stray_again) [] linked_6

-- ---- its image

stray_fits : FitsMemory (picture_of parts stray_program)
stray_fits = fits stray_program (omega arith) (omega arith)

abbrev run_of : (input : List ℕ) → (acts : ℕ) → Run
run_of input acts = record { units = []; input = input; acts = acts; serials = 4 }

abbrev stray_image : (input : List ℕ) → (acts : ℕ) → Image
stray_image input acts = image_for stray_program (run_of input acts)

abbrev stray_variables : List Declared
stray_variables = area_made ∷ pointer_made ∷ twin_made ∷ offset_made ∷ []

abbrev stray_whole : (input : List ℕ) → (acts : ℕ) → Whole
stray_whole input acts =
    record {
      image = stray_image input acts;
      program = stray_program;
      main = stray_main;
      others = [];
      environment = stray_environment;
      entry = stray_entry;
      end = stray_finish;
      made = newest_all image_parts stray_variables;
    }

all_differ : AllDiffer (map template_of (table_of stray_program))
all_differ =
    table_differs (table_of stray_program) (table_once stray_program) (
      record {
        headed = refl;
        leaved = (record { sized = refl; few = omega arith; bounded = tt; placed = refl }, tt);
      },
      (tt, tt),
      (
        record {
          headed = refl;
          leaved = (
            record {
              sized = refl;
              few = omega arith;
              bounded = tt;
              placed =
                  refl;
            },
            tt,
          );
        },
        (tt, tt),
        (
          record {
            headed = refl;
            leaved = (
              record {
                sized = refl;
                few = omega arith;
                bounded =
                    tt;
                placed = refl;
              },
              (record { sized = refl; few = omega arith; bounded = tt; placed = refl }, tt),
            );
          },
          (
            tt,
            (tt, tt),
          ),
          (
            record {
              headed = refl;
              leaved = (
                record {
                  sized = refl;
                  few = omega arith;
                  bounded = tt;
                  placed =
                      refl;
                },
                tt,
              );
            },
            (tt, tt),
            tt,
          ),
        ),
      ),
    )

-- ---- its variables

stray_all :
    (input : List ℕ) (acts : ℕ) →
    AreAll (surroundings_of (stray_image input acts)) (main_of (stray_whole input acts))
    (start_point (stray_image input acts)) no_numbers stray_variables
stray_all input acts =
    let n = linked_length (links_of stray_code) 0 stray_code in
    record {
      kind = refl;
      those = inl (refl, refl, inl (refl, refl, inr (refl, inl (refl, refl, inl (refl, refl, tt)))));
      listed = (
        record { class = refl; evaluations = refl; late = omega arith; table = refl },
        (
          record {
            class =
                refl;
            evaluations = refl;
            late = omega arith;
            table = refl;
          },
          (
            record {
              class = refl;
              evaluations = refl;
              late
                  = omega arith;
              table = refl;
            },
            (
              record { class = refl; evaluations = refl; late = omega arith; table = refl },
              tt,
            ),
          ),
        ),
      );
      code = refl;
      made = refl;
      parts = refl;
      few = omega arith;
      declared = (
        inr (record {
          newest = refl;
          here = refl;
          capacity = 256;
          holds = omega arith;
          size = omega arith;
          fits = omega arith;
          even = refl;
          low = omega (arith, n);
          shape = refl;
          number = omega arith;
          initial = refl;
          none = refl;
          area = refl;
          fixed = refl;
          rounded = refl;
          bounded = omega arith;
          serial = omega arith;
          limit = refl;
        }),
        (
          inl (record {
            newest = refl;
            here = refl;
            holds = omega arith;
            size = omega arith;
            fits = omega arith;
            even = refl;
            low = omega (arith, n);
            shape = refl;
            number = omega arith;
            initial = refl;
            none = refl;
            plain = refl;
            fixed = refl;
            values = (tt, tt);
            valued = pointer_valued;
            limit = refl;
          }),
          (
            inr (record {
              newest = refl;
              here = refl;
              capacity = 256;
              holds = omega arith;
              size = omega arith;
              fits = omega arith;
              even = refl;
              low = omega (arith, n);
              shape = refl;
              number = omega arith;
              initial = refl;
              none = refl;
              area = refl;
              fixed = refl;
              rounded = refl;
              bounded = omega arith;
              serial = omega arith;
              limit = refl;
            }),
            (
              inl (record {
                newest = refl;
                here = refl;
                holds = omega arith;
                size = omega arith;
                fits = omega arith;
                even = refl;
                low = omega (arith, n);
                shape = refl;
                number = omega arith;
                initial = refl;
                none = refl;
                plain = refl;
                fixed = refl;
                values = (tt, tt);
                valued = offset_valued;
                limit = refl;
              }),
              tt,
            ),
          ),
        ),
      );
    }

abbrev stray_block : (input : List ℕ) → (acts : ℕ) → Block
stray_block input acts =
    block_at (surroundings_of (stray_image input acts)) (linked_code stray_code) (main_of (stray_whole input acts))
    (start_point (stray_image input acts)) no_numbers

pointer_known :
    (input : List ℕ) (acts : ℕ) → IsBegun (stray_block input acts) →
    IsKnown (stray_block input acts) pointer_spot pointer_declared
pointer_known input acts b =
    known_own (surroundings_of (stray_image input acts)) (linked_code stray_code) (main_of (stray_whole input acts))
    (start_point (stray_image input acts)) no_numbers stray_variables pointer_made pointer_spot
    (record { high = omega arith; inside = omega arith }) (stray_all input acts) (inr (inl refl))
    (record { declared = refl; index = refl; level = refl; own = refl; place = refl }) b

offset_known :
    (input : List ℕ) (acts : ℕ) → IsBegun (stray_block input acts) →
    IsKnown (stray_block input acts) offset_spot (offset_declared of_area)
offset_known input acts b =
    known_own (surroundings_of (stray_image input acts)) (linked_code stray_code) (main_of (stray_whole input acts))
    (start_point (stray_image input acts)) no_numbers stray_variables offset_made offset_spot
    (record { high = omega arith; inside = omega arith }) (stray_all input acts) (inr (inr (inr (inl refl))))
    (record { declared = refl; index = refl; level = refl; own = refl; place = refl }) b

pointer_is :
    (input : List ℕ) (acts : ℕ) → IsBegun (stray_block input acts) → IsPointer (stray_block input acts) pointer_spot
pointer_is input acts b = record { begun = b; known = pointer_known input acts b; own = refl }

offset_is :
    (input : List ℕ) (acts : ℕ) → IsBegun (stray_block input acts) →
    IsOffsetVariable (stray_block input acts) offset_spot of_area
offset_is input acts b = record { initial = []; known = offset_known input acts b }

abbrev area_known : (input : List ℕ) (acts : ℕ) → IsKnown (stray_block input acts) area_spot area_declared
area_known input acts =
    record {
      declared = refl;
      serial = 1;
      binding = refl;
      living = K.living_at 1 1 (generation_for area_made);
      lives = refl;
      shape = refl;
      base = _;
      frame = inl (refl, refl);
      at = refl;
      low = omega arith;
      inside = omega arith;
    }

abbrev twin_known : (input : List ℕ) (acts : ℕ) → IsKnown (stray_block input acts) twin_spot area_declared
twin_known input acts =
    record {
      declared = refl;
      serial = 3;
      binding = refl;
      living = K.living_at 3 1 (generation_for twin_made);
      lives = refl;
      shape = refl;
      base = _;
      frame = inl (refl, refl);
      at = refl;
      low = omega arith;
      inside = omega arith;
    }

-- its frame tells the areas' names
abbrev has_area : (input : List ℕ) (acts : ℕ) → HasArea (stray_block input acts) area_spot
has_area input acts =
    record {
      declared = area_declared;
      known = area_known input acts;
      own = refl;
      capacity = 256;
      area = refl;
      layer = _;
      others = [];
      layers = refl;
      told = record { kind = refl; second = refl; low = refl; high = refl };
      few = omega arith;
    }

abbrev has_twin : (input : List ℕ) (acts : ℕ) → HasArea (stray_block input acts) twin_spot
has_twin input acts =
    record {
      declared = area_declared;
      known = twin_known input acts;
      own = refl;
      capacity = 256;
      area = refl;
      layer = _;
      others = [];
      layers = refl;
      told = record { kind = refl; second = refl; low = refl; high = refl };
      few = omega arith;
    }

is_structure :
    (input : List ℕ) (acts : ℕ) → IsBegun (stray_block input acts) →
    IsStructure (stray_block input acts) pointer_spot node_spot node_members node_leaves
is_structure input acts b =
    record {
      pointer = pointer_is input acts b;
      declared = refl;
      meant = refl;
      plain = refl;
      signature = 2;
      table = refl;
      number = omega arith;
      numbered = refl;
      low = omega arith;
    }

-- ---- what ends the run

abbrev setting : (input : List ℕ) → (acts line : ℕ) → Setting
setting input acts line = setting_of (stray_block input acts) [] line 100

overflows :
    (input : List ℕ) (acts line : ℕ) → acts + 1 < 2 ^ 64 → OverflowComes (setting input acts line)
overflows input acts line few =
    overflow_ends (setting input acts line)
    (record {
      routines = record {
        at = size_of (start_of 0);
        linked = raise_linked;
        condition = refl;
        end = omega arith;
      };
      overflow = tt;
      error = tt;
      acts = few;
      most = omega arith;
    })

ends : (input : List ℕ) (acts line : ℕ) → acts + 1 < 2 ^ 64 → Ends (setting input acts line)
ends input acts line few =
    record {
      routines = record {
        at = size_of (start_of 0);
        linked = raise_linked;
        condition = refl;
        end = omega arith;
      };
      raises = refl;
      error = tt;
      acts = few;
      most = omega arith;
    }

allocation_is :
    (input : List ℕ) (acts line index : ℕ) (x : _) → acts + 1 < 2 ^ 64 →
    IsStructure (stray_block input acts) x node_spot node_members node_leaves → line < 2 ^ 31 →
    StandsAt index (coded (allocation node_spot x area_spot line)) →
    W.IsAllocation (stray_block input acts) [] node_spot x area_spot node_members node_leaves line index 100
allocation_is input acts line index x few is low l =
    record {
      act = record { line_fits = low; acts = few };
      structure = is;
      new = record { none = refl; sound = (omega arith, (tt, tt)) };
      area = has_area input acts;
      ends = ends input acts line few;
      full = tt;
      words = omega arith;
      waits = λ i. refl;
      turns = acts;
      some = refl;
      statement = l;
    }

-- a number, to what the pointer points to
value_assigned :
    (input : List ℕ) (acts line index need : ℕ) (source : Y.Number) → acts + 1 < 2 ^ 64 →
    IsBegun (stray_block input acts) → line < 2 ^ 31 → need ≤ 1 →
    StandsAt index (coded (B.assignment pointer_spot node_spot value_member source line)) →
    size_of (coded (B.assignment pointer_spot node_spot value_member source line)) + 100
    ≤ length (linked_code stray_code) →
    B.IsAssignment (stray_block input acts) [] pointer_spot node_spot node_members node_leaves value_member source line
    index need 100
value_assigned input acts line index need source few b low one l paid =
    record {
      act = record { line_fits = low; acts = few };
      structure = is_structure input acts b;
      own = value_is;
      ends = ends input acts line few;
      registers = omega (arith, one);
      some = omega arith;
      held = omega arith;
      statement = l;
      paid = omega (arith, paid);
    }

-- ---- offsets

offset_gives :
    (input : List ℕ) (acts line : ℕ) → IsBegun (stray_block input acts) →
    Gives (setting input acts line) 0 (Y.OffsetIn (whole offset_spot))
offset_gives input acts line b = variable_gives (setting input acts line) offset_spot of_area b (offset_is input acts b)

offset_placed :
    (input : List ℕ) (acts line index : ℕ) (x : _) (source : Y.Offset) → acts + 1 < 2 ^ 64 →
    IsBegun (stray_block input acts) → line < 2 ^ 31 → StandsAt index (coded (O.assignment x source line)) →
    size_of (coded (O.assignment x source line)) + 100 ≤ length (linked_code stray_code) →
    IsPlacedWith 0 (stray_block input acts) (O.assignment x source line) line index 0 100
offset_placed input acts line index x source few b low l paid =
    record {
      act = record { line_fits = low; acts = few };
      begun = b;
      registers = omega arith;
      held = omega arith;
      statement = l;
      paid = omega (arith, paid);
    }

addressed :
    (input : List ℕ) (acts line : ℕ) → acts + 1 < 2 ^ 64 → IsBegun (stray_block input acts) →
    IsAddressed (setting input acts line) pointer_spot node_spot node_members node_leaves area_spot
addressed input acts line few b =
    record {
      structure = is_structure input acts b;
      area = has_area input acts;
      ends = ends input acts line few;
      same = refl;
      none = refl;
      words = omega arith;
      waits = λ i. refl;
    }

-- the offset of what the pointer points to
named_does :
    (input : List ℕ) (acts line index : ℕ) → acts + 1 < 2 ^ 64 → IsBegun (stray_block input acts) → line < 2 ^ 31 →
    StandsAt index (coded (O.assignment offset_spot (offset_of pointer_spot node_spot node_leaves area_spot) line)) →
    size_of (coded (O.assignment offset_spot (offset_of pointer_spot node_spot node_leaves area_spot) line)) + 100
    ≤ length (linked_code stray_code) →
    Does (stray_block input acts) []
    (O.assignment offset_spot (offset_of pointer_spot node_spot node_leaves area_spot) line) index left_over
named_does input acts line index few b low l paid =
    let source = offset_of pointer_spot node_spot node_leaves area_spot in
    offset_does 0 (stray_block input acts) [] offset_spot of_area source line index left_over 0 100
    (offset_placed input acts line index offset_spot source few b low l paid) (offset_is input acts b)
    (address_gives (setting input acts line) pointer_spot node_spot node_members node_leaves area_spot
    (addressed input acts line few b))

pointing_is :
    (input : List ℕ) (acts line index : ℕ) (x a : _) → acts + 1 < 2 ^ 64 → IsBegun (stray_block input acts) →
    HasArea (stray_block input acts) a → line < 2 ^ 31 →
    StandsAt index (coded (pointing pointer_spot (Y.OffsetIn (whole x)) a line)) →
    size_of (coded (pointing pointer_spot (Y.OffsetIn (whole x)) a line)) + 100 ≤ length (linked_code stray_code) →
    IsPointing (stray_block input acts) pointer_spot (Y.OffsetIn (whole x)) a line index 0 100
pointing_is input acts line index x a few b area low l paid =
    record {
      act = record { line_fits = low; acts = few };
      target = pointer_is input acts b;
      area = area;
      registers = omega arith;
      held = omega arith;
      statement = l;
      paid = omega (arith, paid);
    }

copying_is :
    (input : List ℕ) (acts : ℕ) → acts + 1 < 2 ^ 64 → IsBegun (stray_block input acts) →
    IsCopying (stray_block input acts) [] twin_spot area_spot 5 copy_index 100
copying_is input acts few b =
    record {
      act = record { line_fits = omega arith; acts = few };
      target = has_twin input acts;
      source = has_area input acts;
      ends = ends input acts 5 few;
      full = tt;
      statement = copy_linked;
    }

-- ---- the whole

stray_each :
    (input : List ℕ) (acts : ℕ) → acts + 1 < 2 ^ 64 → IsBegun (stray_block input acts) →
    EachDoes (stray_block input acts) [] stray_body (body_index (main_of (stray_whole input acts))) left_over
stray_each input acts few b =
    let k = stray_block input acts in
    let n = linked_length (links_of stray_code) 0 stray_code in (
      allocate_does k [] node_spot pointer_spot area_spot node_members node_leaves 3 stray_start left_over 100
          (allocation_is input acts 3 stray_start pointer_spot few (is_structure input acts b) (omega arith)
          allocate_linked),
      (
        named_does input acts 4 name_index few b (omega arith) name_linked (omega (arith, n)),
        (
          copy_does k [] twin_spot area_spot 5 copy_index left_over 100 (copying_is input acts few b),
          (
            point_does k [] pointer_spot (Y.OffsetIn (whole offset_spot)) twin_spot 6 follow_index left_over 0 100
                (pointing_is input acts 6 follow_index offset_spot twin_spot few b (has_twin input acts) (omega arith)
                follow_linked (omega (arith, n))) (offset_gives input acts 6 b),
            (
              assign_does k [] pointer_spot node_spot node_members node_leaves value_member (Y.NumberConstant 7) 7
                  change_index left_over 0 100 (value_assigned input acts 7 change_index 0 (Y.NumberConstant 7) few
                  b (omega
                  arith) (omega arith) change_linked (omega (arith, n))) (constant_does (setting input acts 7) 7
                  (omega arith)),
              (
                named_does input acts 8 again_index few b (omega arith) again_linked (omega (arith, n)),
                tt,
              ),
            ),
          ),
        ),
      ),
    )

stray_is :
    (input : List ℕ) (acts : ℕ) → acts + 1 < 2 ^ 64 →
    IsWhole (stray_whole input acts) (Q.first_bytes (picture_of parts stray_program))
stray_is input acts few =
    let l = back_of (first_frame image_parts) (main_called 0) start_linked in
    record {
      start = record {
        linked = start_linked;
        differ = all_differ;
        bytes = first_length (picture_of parts stray_program) stray_fits;
        told = constants_stand stray_code stray_fits;
      };
      made = all_procedure (surroundings_of (stray_image input acts)) (linked_code stray_code)
          (main_of (stray_whole input acts)) (start_point (stray_image input acts)) no_numbers stray_variables
          (stray_all input acts);
      callee = record {
        coded = record { level = omega arith; line = omega arith; saved = omega arith; back = omega arith };
        calls = first_of (CallTo (ProcedureEntry 0)) _ (rest_of _ _ (rest_of _ _ (rest_of _ _ l)));
        place = refl;
        stands = main_linked;
        end = refl;
        kind = refl;
        labels = (
          λ label e. absurd (cc e),
          (
            λ label e. absurd (cc e),
            (
              λ label e. absurd (cc e),
              (
                λ label e. absurd
                    (cc e),
                (λ label e. absurd (cc e), (λ label e. absurd (cc e), λ label e. absurd (cc e))),
              ),
            ),
          ),
        );
        acts = few;
      };
      room = record { room = omega arith; shallow = refl; parent = tt; idle = refl };
      level = refl;
      procedures = refl;
      statics = refl;
    }

abbrev pub stray_layout : Layout
stray_layout =
    record {
      main = stray_main;
      others = [];
      environment = stray_environment;
      entry = stray_entry;
      end = stray_finish;
      units = [];
      constants = constants_in stray_code;
      fills = [];
      serials = 4;
      made = newest_all parts stray_variables;
    }

pub stray_program_runs : Runs stray_program stray_layout
stray_program_runs =
    record {
      whole = λ input acts few. stray_is input acts few;
      each = λ input acts few b. stray_each input acts few b;
    }
