-- The worked row: all that is premised of the program is computed.
use Rattle.std.proofs.Common.{ℕ, ◌+◌, ◌^◌, ◌<◌, ◌≤◌, List, [], length, false}
use Rattle.std.proofs.Common.{refl, arith}
use Rattle.pli_language.specs.Formats as L
use Rattle.pli_typing.specs.TypedTree as Y
use Rattle.pli_meaning.specs.Pictures as Q
use Rattle.pli_serving.specs.ServiceState.{EditPlace}
use Rattle.pli_coding.specs.Assembly.{CallTo, ProcedureEntry, size_of}
use Rattle.pli_coding.specs.Images.{first_frame, linked_code, picture_of}
use Rattle.pli_coding.specs.Linking.{links_of}
use Rattle.run_steps.proofs.Jumps.{back_of, first_of, rest_of}
use Rattle.run_steps.proofs.Linking.{linked_length}
use Rattle.pli_headline.specs.Headline.{parts}
use Rattle.pli_headline.proofs.WholeSizes.{first_length}
use Rattle.program_places.specs.Constants.{constants_in}
use Rattle.program_runs.specs.Calls.{body_index, left_over}
use Rattle.program_runs.specs.Programs.{IsWhole, main_of}
use Rattle.program_runs.specs.Starts.{image_parts, main_called, no_numbers, start_of, start_point}
use Rattle.program_runs.specs.Starts.{surroundings_of}
use Rattle.program_runs.specs.Statements.{Block, Does, EachDoes, IsBegun}
use Rattle.expression_runs.specs.Assignments as N
use Rattle.expression_runs.specs.Assignments.{setting_of}
use Rattle.expression_runs.specs.Laws as D
use Rattle.expression_runs.specs.Values.{OverflowComes, Setting}
use Rattle.expression_runs.specs.Variables.{whole}
use Rattle.expression_runs.proofs.Assignments.{assign_does as number_does}
use Rattle.expression_runs.proofs.Operands.{constant_does}
use Rattle.expression_runs.proofs.Raises.{overflow_ends}
use Rattle.expression_runs.proofs.Sums.{sum_does}
use Rattle.expression_runs.proofs.VariablePoints.{variable_does}
use Rattle.variable_runs.specs.Lists.{newest_all}
use Rattle.variable_runs.proofs.Lists.{all_procedure}
use Rattle.test_runs.specs.Tests.{Tests}
use Rattle.test_runs.proofs.Bits.{numbers_tests}
use Rattle.test_runs.proofs.Loops.{loop_does}
use Rattle.text_runs.specs.Texts.{IsErrorless}
use Rattle.text_runs.proofs.Errors.{error_ends}
use Rattle.area_runs.specs.Based.{Ends}
use Rattle.edit_runs.specs.Edits.{IsPut, KnowsFormats, placing, within}
use Rattle.edit_runs.proofs.DataPuts.{put_does}
use Rattle.edit_runs.proofs.Places.{begun_placed, errorless_placed}
use Rattle.edit_headlines.proofs.Formats.{list_placed}
use Rattle.locator_runs.proofs.PointerAssignments.{copy_does, null_does}
use Rattle.locator_runs.proofs.PointerTests.{null_tests}
use Rattle.member_freeings.proofs.Freeing.{free_does}
use Rattle.member_runs.specs.Allocations as W
use Rattle.member_runs.specs.MemberAssignments as B
use Rattle.member_runs.specs.MemberPointers.{IsFollowing, IsLinking}
use Rattle.member_runs.specs.Members.{IsStructure, member_of}
use Rattle.member_runs.proofs.FollowStatements.{follow_does}
use Rattle.member_runs.proofs.LinkStatements.{link_does}
use Rattle.member_runs.proofs.MemberAssignments.{assign_does}
use Rattle.member_runs.proofs.MemberReads.{member_does}
use Rattle.member_runs.proofs.NewStatements.{allocate_does}
use Rattle.block_headlines.specs.Headlines.{Layout, Runs}
use Rattle.block_headlines.proofs.Constants.{constants_stand, main_of_program}
use Rattle.walked_headlines.specs.Rows.{area_spot, head_spot, made_turns}
use Rattle.walked_headlines.specs.Rows.{next_member, node_leaves, node_members, node_spot, number_spot}
use Rattle.walked_headlines.specs.Rows.{pointer_spot, seen_turns, value_member, walk_body, walk_entry}
use Rattle.walked_headlines.specs.Rows.{walk_environment, walk_few, walk_formats, walk_main, walk_make, walk_sum}
use Rattle.walked_headlines.specs.Rows.{walk_program, walk_put, walk_see, walk_some, walk_twice}
use Rattle.walked_headlines.proofs.Placed.{free_index, free_linked, next_index, next_linked}
use Rattle.walked_headlines.proofs.Placed.{StandsAt, allocate_index, allocate_linked, back_index, back_linked, coded}
use Rattle.walked_headlines.proofs.Placed.{count_index, count_linked, head_index, head_linked, link_index, link_linked}
use Rattle.walked_headlines.proofs.Placed.{main_linked, make_index, make_linked, null_linked, on_index, on_linked}
use Rattle.walked_headlines.proofs.Placed.{raise_linked, see_index, see_linked, start_linked, value_index, value_linked}
use Rattle.walked_headlines.proofs.Placed.{walk_code, walk_finish, walk_start, write_index, write_linked, zero_index}
use Rattle.walked_headlines.proofs.Placed.{zero_linked}
use Rattle.walked_headlines.proofs.Known.{all_differ, has_area, head_is, is_structure, next_is, number_is, pointer_is}
use Rattle.walked_headlines.proofs.Known.{run_of, value_is, walk_all, walk_block, walk_fits, walk_image}
use Rattle.walked_headlines.proofs.Known.{walk_variables, walk_whole}

-- ---- what ends the run

abbrev setting : (input : List ℕ) → (acts line : ℕ) → Setting
setting input acts line = setting_of (walk_block input acts) [] line 100

overflows :
    (input : List ℕ) (acts line : ℕ) → acts + 1 < 2 ^ 64 → OverflowComes (setting input acts line)
overflows input acts line few =
    overflow_ends (setting input acts line)
    (record {
      routines = record {
        at = size_of (start_of 0);
        linked = raise_linked;
        condition = refl;
        end = omega arith;
      };
      overflow = tt;
      error = tt;
      acts = few;
      most = omega arith;
    })

ends : (input : List ℕ) (acts line : ℕ) → acts + 1 < 2 ^ 64 → Ends (setting input acts line)
ends input acts line few =
    record {
      routines = record {
        at = size_of (start_of 0);
        linked = raise_linked;
        condition = refl;
        end = omega arith;
      };
      raises = refl;
      error = tt;
      acts = few;
      most = omega arith;
    }

errorless : (input : List ℕ) (acts line : ℕ) → acts + 1 < 2 ^ 64 → IsErrorless (setting input acts line)
errorless input acts line few =
    record {
      routines = record {
        at = size_of (start_of 0);
        linked = raise_linked;
        condition = refl;
        end = omega arith;
      };
      raises = refl;
      error = tt;
      acts = few;
      most = omega arith;
    }

-- ---- statements of the first loop

number_assigned :
    (input : List ℕ) (acts line index need : ℕ) (source : Y.Number) → acts + 1 < 2 ^ 64 →
    IsBegun (walk_block input acts) → line < 2 ^ 31 → need ≤ 1 →
    StandsAt index (coded (N.assignment number_spot source line)) →
    size_of (coded (N.assignment number_spot source line)) + 100 ≤ length (linked_code walk_code) →
    N.IsAssignment (walk_block input acts) number_spot source line index need 100
number_assigned input acts line index need source few b low one l paid =
    record {
      act = record { line_fits = low; acts = few };
      begun = b;
      number = number_is input acts b;
      registers = omega (arith, one);
      held = omega arith;
      statement = l;
      paid = omega (arith, paid);
    }

count_does :
    (input : List ℕ) (acts : ℕ) → acts + 1 < 2 ^ 64 → IsBegun (walk_block input acts) →
    Does (walk_block input acts) [] (N.assignment number_spot walk_sum 6) count_index left_over
count_does input acts few b =
    let n = linked_length (links_of walk_code) 0 walk_code in
    let k = setting input acts 6 in
    number_does (walk_block input acts) [] number_spot walk_sum 6 count_index left_over 1 100
    (number_assigned input acts 6 count_index 1 walk_sum few b (omega arith) (omega arith) count_linked
    (omega (arith, n)))
    (sum_does k (Y.NumberIn (whole number_spot)) (Y.NumberConstant 1) 0 0 (overflows input acts 6 few)
    (variable_does k number_spot b (number_is input acts b)) (constant_does k 1 (omega arith)))

allocation_is :
    (input : List ℕ) (acts : ℕ) → acts + 1 < 2 ^ 64 → IsBegun (walk_block input acts) →
    W.IsAllocation (walk_block input acts) [] node_spot pointer_spot area_spot node_members node_leaves 7
    allocate_index 100
allocation_is input acts few b =
    record {
      act = record { line_fits = omega arith; acts = few };
      structure = is_structure input acts b;
      new = record { none = refl; sound = (omega arith, (tt, tt)) };
      area = has_area input acts;
      ends = ends input acts 7 few;
      full = tt;
      words = omega arith;
      waits = λ i. refl;
      turns = acts;
      some = refl;
      statement = allocate_linked;
    }

value_does :
    (input : List ℕ) (acts : ℕ) → acts + 1 < 2 ^ 64 → IsBegun (walk_block input acts) →
    Does (walk_block input acts) [] (B.assignment pointer_spot node_spot value_member walk_twice 8) value_index
    left_over
value_does input acts few b =
    let n = linked_length (links_of walk_code) 0 walk_code in
    let k = setting input acts 8 in
    let operand = variable_does k number_spot b (number_is input acts b) in
    assign_does (walk_block input acts) [] pointer_spot node_spot node_members node_leaves value_member walk_twice 8
    value_index left_over 1 100
    (record {
      act = record { line_fits = omega arith; acts = few };
      structure = is_structure input acts b;
      own = value_is;
      ends = ends input acts 8 few;
      registers = omega arith;
      some = omega arith;
      held = omega arith;
      statement = value_linked;
      paid = omega (arith, n);
    })
    (sum_does k (Y.NumberIn (whole number_spot)) (Y.NumberIn (whole number_spot)) 0 0 (overflows input acts 8 few)
    operand operand)

link_is :
    (input : List ℕ) (acts : ℕ) → acts + 1 < 2 ^ 64 → IsBegun (walk_block input acts) →
    IsLinking (walk_block input acts) [] pointer_spot node_spot head_spot node_members node_leaves next_member 9
    link_index 100
link_is input acts few b =
    let n = linked_length (links_of walk_code) 0 walk_code in
    record {
      act = record { line_fits = omega arith; acts = few };
      structure = is_structure input acts b;
      own = next_is;
      source = head_is input acts b;
      ends = ends input acts 9 few;
      layer = _;
      others = [];
      layers = refl;
      words = omega arith;
      waits = λ i. refl;
      statement = link_linked;
      paid = omega (arith, n);
    }

few_tests :
    (input : List ℕ) (acts : ℕ) → IsBegun (walk_block input acts) → Tests (setting input acts 5) 1 walk_few
few_tests input acts b =
    let k = setting input acts 5 in
    numbers_tests k Y.IsLess (Y.NumberIn (whole number_spot)) (Y.NumberConstant 3) 0 0
    (variable_does k number_spot b (number_is input acts b)) (constant_does k 3 (omega arith))

make_does :
    (input : List ℕ) (acts : ℕ) → acts + 1 < 2 ^ 64 → IsBegun (walk_block input acts) →
    Does (walk_block input acts) [] walk_make make_index left_over
make_does input acts few b =
    let k = walk_block input acts in
    let n = linked_length (links_of walk_code) 0 walk_code in
    loop_does k [] walk_few made_turns 5 make_index left_over 1 100
    (record {
      act = record { line_fits = omega arith; acts = few };
      registers = omega arith;
      held = omega arith;
      statement = make_linked;
      paid = omega (arith, n);
    })
    (few_tests input acts b)
    (record {
      begun = b;
      turns = omega arith;
      marked = (
        λ label e. absurd (cc e),
        (
          λ label e. absurd (cc e),
          (
            λ label e. absurd (cc e),
            (λ label e. absurd (cc e), (λ label e. absurd (cc e), λ label e. absurd (cc e))),
          ),
        ),
      );
    }) (
      count_does input acts few b,
      (
        allocate_does k [] node_spot pointer_spot area_spot node_members node_leaves 7 allocate_index left_over 100
            (allocation_is input acts few b),
        (
          value_does input acts few b,
          (
            link_does k [] pointer_spot node_spot head_spot node_members node_leaves next_member 9 link_index left_over
                100 (link_is input acts few b),
            (
              copy_does k [] head_spot pointer_spot 10 head_index left_over
                  (record {
                    act = record { line_fits = omega arith; acts = few };
                    pointer = head_is input acts b;
                    statement = head_linked;
                  }) (pointer_is input acts b),
              tt,
            ),
          ),
        ),
      ),
    )

-- ---- statements of the second one

-- while its place in the format list is in use
structure_placed :
    (k : Block) (place : EditPlace) → IsStructure k pointer_spot node_spot node_members node_leaves →
    IsStructure (placing place k) pointer_spot node_spot node_members node_leaves
structure_placed k place is =
    let h = is.pointer.known in
    record {
      pointer = record {
        begun = begun_placed k place is.pointer.begun;
        known = record {
          declared = h.declared;
          serial = h.serial;
          binding = h.binding;
          living = h.living;
          lives = h.lives;
          shape = h.shape;
          base = h.base;
          frame = h.frame;
          at = h.at;
          low = h.low;
          inside = h.inside;
        };
        own = is.pointer.own;
      };
      declared = is.declared;
      meant = is.meant;
      plain = is.plain;
      signature = is.signature;
      table = is.table;
      number = is.number;
      numbered = is.numbered;
      low = is.low;
    }

ends_placed : (s : Setting) (place : EditPlace) → Ends s → Ends (within place s)
ends_placed s place h =
    record { routines = h.routines; raises = h.raises; error = h.error; acts = h.acts; most = h.most }

written_does :
    (input : List ℕ) (acts : ℕ) (place : EditPlace) → acts + 1 < 2 ^ 64 → IsBegun (walk_block input acts) →
    D.Does (within place (setting input acts 14)) 0 (Y.NumberIn (member_of pointer_spot node_spot value_member))
written_does input acts place few b =
    let k = setting input acts 14 in
    member_does (within place k) pointer_spot node_spot node_members node_leaves value_member
    (structure_placed (walk_block input acts) place (is_structure input acts b)) value_is
    (ends_placed k place (ends input acts 14 few)) refl

-- its format list is found at each point
formats_known :
    (input : List ℕ) (acts : ℕ) → IsBegun (walk_block input acts) → KnowsFormats (walk_block input acts) walk_formats
unfolding L.formats_move_data
formats_known input acts b =
    list_placed walk_program (walk_block input acts) walk_formats walk_fits
    (main_of_program walk_program (run_of input acts) (walk_block input acts) refl refl refl b)
    ((omega arith, omega arith), (omega arith, tt)) refl refl

put_is :
    (input : List ℕ) (acts : ℕ) → acts + 1 < 2 ^ 64 → IsBegun (walk_block input acts) →
    IsPut 0 (walk_block input acts) [] walk_put write_index 0 100
put_is input acts few b =
    let n = linked_length (links_of walk_code) 0 walk_code in
    record {
      act = record { line_fits = omega arith; acts = few };
      skip = tt;
      lists = (
        (record { fixed = refl; text = refl; are = tt; some = refl }, formats_known input acts b),
        tt,
      );
      registers = omega arith;
      one = omega arith;
      held = omega arith;
      error = λ place.
          error_ends (List ℕ) (within place (setting input acts 14))
          (errorless_placed (setting input acts 14) place (errorless input acts 14 few));
      statement = write_linked;
      paid = omega (arith, n);
    }

next_head_is :
    (input : List ℕ) (acts : ℕ) → acts + 1 < 2 ^ 64 → IsBegun (walk_block input acts) →
    IsFollowing (walk_block input acts) [] head_spot pointer_spot node_spot node_members node_leaves next_member 15
    next_index 100
next_head_is input acts few b =
    let n = linked_length (links_of walk_code) 0 walk_code in
    record {
      act = record { line_fits = omega arith; acts = few };
      target = head_is input acts b;
      structure = is_structure input acts b;
      own = next_is;
      ends = ends input acts 15 few;
      statement = next_linked;
      paid = omega (arith, n);
    }

see_does :
    (input : List ℕ) (acts : ℕ) → acts + 1 < 2 ^ 64 → IsBegun (walk_block input acts) →
    Does (walk_block input acts) [] walk_see see_index left_over
see_does input acts few b =
    let k = walk_block input acts in
    let n = linked_length (links_of walk_code) 0 walk_code in
    loop_does k [] walk_some seen_turns 13 see_index left_over 0 100
    (record {
      act = record { line_fits = omega arith; acts = few };
      registers = omega arith;
      held = omega arith;
      statement = see_linked;
      paid = omega (arith, n);
    })
    (null_tests (setting input acts 13) false pointer_spot (pointer_is input acts b))
    (record {
      begun = b;
      turns = omega arith;
      marked = (
        λ label e. absurd (cc e),
        (λ label e. absurd (cc e), (λ label e. absurd (cc e), (λ label e. absurd (cc e), λ label e. absurd (cc e)))),
      );
    }) (
      put_does 0 k [] walk_put write_index left_over 0 100 (put_is input acts few b)
          (((λ place. written_does input acts place few b), tt), tt),
      (
        follow_does k [] head_spot pointer_spot node_spot node_members node_leaves next_member 15 next_index left_over
            100 (next_head_is input acts few b),
        (
          free_does k [] pointer_spot node_spot node_members node_leaves 16 free_index left_over 100
              (record {
                act = record { line_fits = omega arith; acts = few };
                structure = is_structure input acts b;
                ends = ends input acts 16 few;
                statement = free_linked;
              }),
          (
            copy_does k [] pointer_spot head_spot 17 on_index left_over
                (record {
                  act = record { line_fits = omega arith; acts = few };
                  pointer = pointer_is input acts b;
                  statement = on_linked;
                }) (head_is input acts b),
            tt,
          ),
        ),
      ),
    )

-- ---- the whole

walk_each :
    (input : List ℕ) (acts : ℕ) → acts + 1 < 2 ^ 64 → IsBegun (walk_block input acts) →
    EachDoes (walk_block input acts) [] walk_body (body_index (main_of (walk_whole input acts))) left_over
walk_each input acts few b =
    let k = walk_block input acts in
    let n = linked_length (links_of walk_code) 0 walk_code in (
      null_does k [] head_spot 3 walk_start left_over
          (record {
            act = record { line_fits = omega arith; acts = few };
            pointer = head_is input acts b;
            statement = null_linked;
          }),
      (
        number_does k [] number_spot (Y.NumberConstant 0) 4 zero_index left_over 0 100
            (number_assigned input acts 4 zero_index 0 (Y.NumberConstant 0) few b (omega arith) (omega arith)
            zero_linked
            (omega (arith, n)))
            (constant_does (setting input acts 4) 0 (omega arith)),
        (
          make_does input acts few b,
          (
            copy_does k [] pointer_spot head_spot 12 back_index left_over
                (record {
                  act = record { line_fits = omega arith; acts = few };
                  pointer = pointer_is input acts b;
                  statement = back_linked;
                }) (head_is input acts b),
            (see_does input acts few b, tt),
          ),
        ),
      ),
    )

walk_is :
    (input : List ℕ) (acts : ℕ) → acts + 1 < 2 ^ 64 →
    IsWhole (walk_whole input acts) (Q.first_bytes (picture_of parts walk_program))
walk_is input acts few =
    let l = back_of (first_frame image_parts) (main_called 0) start_linked in
    record {
      start = record {
        linked = start_linked;
        differ = all_differ;
        bytes = first_length (picture_of parts walk_program) walk_fits;
        told = constants_stand walk_code walk_fits;
      };
      made = all_procedure (surroundings_of (walk_image input acts)) (linked_code walk_code)
          (main_of (walk_whole input acts)) (start_point (walk_image input acts)) no_numbers walk_variables
          (walk_all input acts);
      callee = record {
        coded = record { level = omega arith; line = omega arith; saved = omega arith; back = omega arith };
        calls = first_of (CallTo (ProcedureEntry 0)) _ (rest_of _ _ (rest_of _ _ (rest_of _ _ l)));
        place = refl;
        stands = main_linked;
        end = refl;
        kind = refl;
        labels = (
          λ label e. absurd (cc e),
          (
            λ label e. absurd (cc e),
            (
              λ label e. absurd (cc e),
              (λ label e. absurd (cc e), (λ label e. absurd (cc e), λ label e. absurd (cc e))),
            ),
          ),
        );
        acts = few;
      };
      room = record { room = omega arith; shallow = refl; parent = tt; idle = refl };
      level = refl;
      procedures = refl;
      statics = refl;
    }

abbrev pub walk_layout : Layout
walk_layout =
    record {
      main = walk_main;
      others = [];
      environment = walk_environment;
      entry = walk_entry;
      end = walk_finish;
      units = [];
      constants = constants_in walk_code;
      fills = [];
      serials = 4;
      made = newest_all parts walk_variables;
    }

pub walk_program_runs : Runs walk_program walk_layout
walk_program_runs =
    record {
      whole = λ input acts few. walk_is input acts few;
      each = λ input acts few b. walk_each input acts few b;
    }
