-- The worked row: all that is premised of the program is computed.
use Rattle.std.proofs.Common.{ℕ, ◌+◌, ◌^◌, ◌<◌, ◌≤◌, List, [], length, false}
use Rattle.std.proofs.Common.{refl, arith}
use Rattle.pli_language.specs.Formats as L
use Rattle.pli_typing.specs.TypedTree as Y
use Rattle.pli_meaning.specs.Pictures as Q
use Rattle.pli_serving.specs.ServiceState.{EditPlace}
use Rattle.pli_coding.specs.Assembly.{CallTo, ProcedureEntry, size_of}
use Rattle.pli_coding.specs.Images.{first_frame, linked_code, picture_of}
use Rattle.pli_coding.specs.Linking.{links_of}
use Rattle.run_steps.proofs.Jumps.{back_of, first_of, rest_of}
use Rattle.run_steps.proofs.Linking.{linked_length}
use Rattle.pli_headline.specs.Headline.{parts}
use Rattle.pli_headline.proofs.WholeSizes.{first_length}
use Rattle.program_places.specs.Constants.{constants_in}
use Rattle.program_runs.specs.Calls.{body_index, left_over}
use Rattle.program_runs.specs.Programs.{IsWhole, main_of}
use Rattle.program_runs.specs.Starts.{image_parts, main_called, no_numbers, start_of, start_point}
use Rattle.program_runs.specs.Starts.{surroundings_of}
use Rattle.program_runs.specs.Statements.{Block, Does, EachDoes, IsBegun}
use Rattle.expression_runs.specs.Assignments as N
use Rattle.expression_runs.specs.Assignments.{setting_of}
use Rattle.expression_runs.specs.Laws as D
use Rattle.expression_runs.specs.Values.{OverflowComes, Setting}
use Rattle.expression_runs.specs.Variables.{whole}
use Rattle.expression_runs.proofs.Assignments.{assign_does as number_does}
use Rattle.expression_runs.proofs.Operands.{constant_does}
use Rattle.expression_runs.proofs.Raises.{overflow_ends}
use Rattle.expression_runs.proofs.Sums.{sum_does}
use Rattle.expression_runs.proofs.VariablePoints.{variable_does}
use Rattle.variable_runs.specs.Lists.{newest_all}
use Rattle.variable_runs.proofs.Lists.{all_procedure}
use Rattle.test_runs.specs.Tests.{Tests}
use Rattle.test_runs.proofs.Bits.{numbers_tests}
use Rattle.test_runs.proofs.Loops.{loop_does}
use Rattle.text_runs.specs.Texts.{IsErrorless}
use Rattle.text_runs.proofs.Errors.{error_ends}
use Rattle.area_runs.specs.Allocations.{HasArea, allocation}
use Rattle.area_runs.specs.Based.{Ends}
use Rattle.edit_runs.specs.Edits.{IsPut, KnowsFormats, placing, put_of, within}
use Rattle.edit_runs.proofs.DataPuts.{put_does}
use Rattle.edit_runs.proofs.Places.{begun_placed, errorless_placed, number_placed}
use Rattle.edit_headlines.proofs.Formats.{list_placed}
use Rattle.area_assignments.specs.Copying.{IsCopying}
use Rattle.area_assignments.proofs.Copying.{copy_does}
use Rattle.member_freeings.proofs.Freeing.{free_does}
use Rattle.member_runs.specs.Allocations as W
use Rattle.member_runs.specs.MemberAssignments as B
use Rattle.member_runs.specs.Members.{IsStructure, member_of}
use Rattle.member_runs.proofs.MemberAssignments.{assign_does}
use Rattle.member_runs.proofs.MemberReads.{member_does}
use Rattle.member_runs.proofs.NewStatements.{allocate_does}
use Rattle.offset_runs.specs.OffsetAddresses.{IsAddressed, offset_of}
use Rattle.offset_runs.specs.OffsetAssignments as O
use Rattle.offset_runs.specs.OffsetPointers.{IsPointing, pointing}
use Rattle.offset_runs.specs.Offsets.{Gives}
use Rattle.offset_runs.proofs.Addresses.{address_gives}
use Rattle.offset_runs.proofs.Comparisons.{offsets_test}
use Rattle.offset_runs.proofs.LocatedReads.{number_does as by_offset}
use Rattle.offset_runs.proofs.MemberAssignments.{keep_does}
use Rattle.offset_runs.proofs.MemberOffsets.{member_gives}
use Rattle.offset_runs.proofs.OffsetAssignments.{assign_does as offset_does}
use Rattle.offset_runs.proofs.OffsetValues.{null_gives, variable_gives}
use Rattle.offset_runs.proofs.PointerAssignments.{point_does}
use Rattle.scalar_runs.specs.Assignments.{IsPlacedWith}
use Rattle.block_headlines.specs.Headlines.{Layout, Runs}
use Rattle.block_headlines.proofs.Constants.{constants_stand, main_of_program}
use Rattle.offset_headlines.specs.Rows.{area_spot, first_spot, made_turns, next_member, node_leaves, node_members}
use Rattle.offset_headlines.specs.Rows.{node_spot}
use Rattle.offset_headlines.specs.Rows.{number_spot, of_area, offset_spot, pointer_spot, seen_turns, spare_spot}
use Rattle.offset_headlines.specs.Rows.{twin_body, twin_entry}
use Rattle.offset_headlines.specs.Rows.{twin_environment, twin_few, twin_formats, twin_main, twin_make, twin_program}
use Rattle.offset_headlines.specs.Rows.{twin_new, twin_put, twin_see, twin_seen, twin_some, twin_spot, twin_sum}
use Rattle.offset_headlines.specs.Rows.{twin_twice, value_member}
use Rattle.offset_headlines.proofs.Placed.{StandsAt, allocate_index, allocate_linked, back_index, back_linked}
use Rattle.offset_headlines.proofs.Placed.{before_index}
use Rattle.offset_headlines.proofs.Placed.{before_linked, change_index, free_index, free_linked}
use Rattle.offset_headlines.proofs.Placed.{change_linked, coded, copy_index, copy_linked, count_index, count_linked}
use Rattle.offset_headlines.proofs.Placed.{first_index, first_linked, follow_index, follow_linked, head_index}
use Rattle.offset_headlines.proofs.Placed.{head_linked}
use Rattle.offset_headlines.proofs.Placed.{last_index, last_linked, link_index, link_linked, main_linked, make_index}
use Rattle.offset_headlines.proofs.Placed.{make_linked, next_index, next_linked, null_linked, raise_linked, see_index}
use Rattle.offset_headlines.proofs.Placed.{see_linked, start_linked, twin_code, twin_finish, twin_start, value_index}
use Rattle.offset_headlines.proofs.Placed.{value_linked, write_index, write_linked, zero_index, zero_linked}
use Rattle.offset_headlines.proofs.Known.{all_differ, first_is, has_area, has_twin, is_spare, is_structure, next_is}
use Rattle.offset_headlines.proofs.Known.{number_is}
use Rattle.offset_headlines.proofs.Known.{offset_is, pointer_is, run_of, twin_all, twin_block, twin_fits, twin_image}
use Rattle.offset_headlines.proofs.Known.{twin_variables, twin_whole, value_is}

-- ---- what ends the run

abbrev setting : (input : List ℕ) → (acts line : ℕ) → Setting
setting input acts line = setting_of (twin_block input acts) [] line 100

overflows :
    (input : List ℕ) (acts line : ℕ) → acts + 1 < 2 ^ 64 → OverflowComes (setting input acts line)
overflows input acts line few =
    overflow_ends (setting input acts line)
    (record {
      routines = record {
        at = size_of (start_of 0);
        linked = raise_linked;
        condition = refl;
        end = omega arith;
      };
      overflow = tt;
      error = tt;
      acts = few;
      most = omega arith;
    })

ends : (input : List ℕ) (acts line : ℕ) → acts + 1 < 2 ^ 64 → Ends (setting input acts line)
ends input acts line few =
    record {
      routines = record {
        at = size_of (start_of 0);
        linked = raise_linked;
        condition = refl;
        end = omega arith;
      };
      raises = refl;
      error = tt;
      acts = few;
      most = omega arith;
    }

errorless : (input : List ℕ) (acts line : ℕ) → acts + 1 < 2 ^ 64 → IsErrorless (setting input acts line)
errorless input acts line few =
    record {
      routines = record {
        at = size_of (start_of 0);
        linked = raise_linked;
        condition = refl;
        end = omega arith;
      };
      raises = refl;
      error = tt;
      acts = few;
      most = omega arith;
    }

-- ---- statements of the first loop

number_assigned :
    (input : List ℕ) (acts line index need : ℕ) (source : Y.Number) → acts + 1 < 2 ^ 64 →
    IsBegun (twin_block input acts) → line < 2 ^ 31 → need ≤ 1 →
    StandsAt index (coded (N.assignment number_spot source line)) →
    size_of (coded (N.assignment number_spot source line)) + 100 ≤ length (linked_code twin_code) →
    N.IsAssignment (twin_block input acts) number_spot source line index need 100
number_assigned input acts line index need source few b low one l paid =
    record {
      act = record { line_fits = low; acts = few };
      begun = b;
      number = number_is input acts b;
      registers = omega (arith, one);
      held = omega arith;
      statement = l;
      paid = omega (arith, paid);
    }

count_does :
    (input : List ℕ) (acts : ℕ) → acts + 1 < 2 ^ 64 → IsBegun (twin_block input acts) →
    Does (twin_block input acts) [] (N.assignment number_spot twin_sum 7) count_index left_over
count_does input acts few b =
    let n = linked_length (links_of twin_code) 0 twin_code in
    let k = setting input acts 7 in
    number_does (twin_block input acts) [] number_spot twin_sum 7 count_index left_over 1 100
    (number_assigned input acts 7 count_index 1 twin_sum few b (omega arith) (omega arith) count_linked
    (omega (arith, n)))
    (sum_does k (Y.NumberIn (whole number_spot)) (Y.NumberConstant 1) 0 0 (overflows input acts 7 few)
    (variable_does k number_spot b (number_is input acts b)) (constant_does k 1 (omega arith)))

allocation_is :
    (input : List ℕ) (acts line index : ℕ) (x : _) → acts + 1 < 2 ^ 64 →
    IsStructure (twin_block input acts) x node_spot node_members node_leaves → line < 2 ^ 31 →
    StandsAt index (coded (allocation node_spot x area_spot line)) →
    W.IsAllocation (twin_block input acts) [] node_spot x area_spot node_members node_leaves line index 100
allocation_is input acts line index x few is low l =
    record {
      act = record { line_fits = low; acts = few };
      structure = is;
      new = record { none = refl; sound = (omega arith, (tt, tt)) };
      area = has_area input acts;
      ends = ends input acts line few;
      full = tt;
      words = omega arith;
      waits = λ i. refl;
      turns = acts;
      some = refl;
      statement = l;
    }

-- a number, to what the pointer points to
value_assigned :
    (input : List ℕ) (acts line index need : ℕ) (source : Y.Number) → acts + 1 < 2 ^ 64 →
    IsBegun (twin_block input acts) → line < 2 ^ 31 → need ≤ 1 →
    StandsAt index (coded (B.assignment pointer_spot node_spot value_member source line)) →
    size_of (coded (B.assignment pointer_spot node_spot value_member source line)) + 100
    ≤ length (linked_code twin_code) →
    B.IsAssignment (twin_block input acts) [] pointer_spot node_spot node_members node_leaves value_member source line
    index need 100
value_assigned input acts line index need source few b low one l paid =
    record {
      act = record { line_fits = low; acts = few };
      structure = is_structure input acts b;
      own = value_is;
      ends = ends input acts line few;
      registers = omega (arith, one);
      some = omega arith;
      held = omega arith;
      statement = l;
      paid = omega (arith, paid);
    }

value_does :
    (input : List ℕ) (acts : ℕ) → acts + 1 < 2 ^ 64 → IsBegun (twin_block input acts) →
    Does (twin_block input acts) [] (B.assignment pointer_spot node_spot value_member twin_twice 9) value_index
    left_over
value_does input acts few b =
    let n = linked_length (links_of twin_code) 0 twin_code in
    let k = setting input acts 9 in
    let operand = variable_does k number_spot b (number_is input acts b) in
    assign_does (twin_block input acts) [] pointer_spot node_spot node_members node_leaves value_member twin_twice 9
    value_index left_over 1 100
    (value_assigned input acts 9 value_index 1 twin_twice few b (omega arith) (omega arith) value_linked
    (omega (arith, n)))
    (sum_does k (Y.NumberIn (whole number_spot)) (Y.NumberIn (whole number_spot)) 0 0 (overflows input acts 9 few)
    operand operand)

-- ---- offsets

offset_gives :
    (input : List ℕ) (acts line : ℕ) → IsBegun (twin_block input acts) →
    Gives (setting input acts line) 0 (Y.OffsetIn (whole offset_spot))
offset_gives input acts line b = variable_gives (setting input acts line) offset_spot of_area b (offset_is input acts b)

offset_placed :
    (input : List ℕ) (acts line index : ℕ) (x : _) (source : Y.Offset) → acts + 1 < 2 ^ 64 →
    IsBegun (twin_block input acts) → line < 2 ^ 31 → StandsAt index (coded (O.assignment x source line)) →
    size_of (coded (O.assignment x source line)) + 100 ≤ length (linked_code twin_code) →
    IsPlacedWith 0 (twin_block input acts) (O.assignment x source line) line index 0 100
offset_placed input acts line index x source few b low l paid =
    record {
      act = record { line_fits = low; acts = few };
      begun = b;
      registers = omega arith;
      held = omega arith;
      statement = l;
      paid = omega (arith, paid);
    }

link_does :
    (input : List ℕ) (acts : ℕ) → acts + 1 < 2 ^ 64 → IsBegun (twin_block input acts) →
    Does (twin_block input acts) [] (O.keeping pointer_spot node_spot next_member (Y.OffsetIn (whole offset_spot)) 10)
    link_index left_over
link_does input acts few b =
    let n = linked_length (links_of twin_code) 0 twin_code in
    keep_does (twin_block input acts) [] pointer_spot node_spot node_members node_leaves next_member of_area
    (Y.OffsetIn (whole offset_spot)) 10 link_index left_over 0 100
    (record {
      act = record { line_fits = omega arith; acts = few };
      structure = is_structure input acts b;
      own = next_is;
      ends = ends input acts 10 few;
      registers = omega arith;
      some = omega arith;
      held = omega arith;
      statement = link_linked;
      paid = omega (arith, n);
    })
    (offset_gives input acts 10 b)

addressed :
    (input : List ℕ) (acts : ℕ) → acts + 1 < 2 ^ 64 → IsBegun (twin_block input acts) →
    IsAddressed (setting input acts 11) pointer_spot node_spot node_members node_leaves area_spot
addressed input acts few b =
    record {
      structure = is_structure input acts b;
      area = has_area input acts;
      ends = ends input acts 11 few;
      same = refl;
      none = refl;
      words = omega arith;
      waits = λ i. refl;
    }

head_does :
    (input : List ℕ) (acts : ℕ) → acts + 1 < 2 ^ 64 → IsBegun (twin_block input acts) →
    Does (twin_block input acts) [] (O.assignment offset_spot (offset_of pointer_spot node_spot node_leaves area_spot)
    11) head_index left_over
head_does input acts few b =
    let n = linked_length (links_of twin_code) 0 twin_code in
    let source = offset_of pointer_spot node_spot node_leaves area_spot in
    offset_does 0 (twin_block input acts) [] offset_spot of_area source 11 head_index left_over 0 100
    (offset_placed input acts 11 head_index offset_spot source few b (omega arith) head_linked (omega (arith, n)))
    (offset_is input acts b)
    (address_gives (setting input acts 11) pointer_spot node_spot node_members node_leaves area_spot
    (addressed input acts few b))

-- ---- the first loop

few_tests :
    (input : List ℕ) (acts : ℕ) → IsBegun (twin_block input acts) → Tests (setting input acts 6) 1 twin_few
few_tests input acts b =
    let k = setting input acts 6 in
    numbers_tests k Y.IsLess (Y.NumberIn (whole number_spot)) (Y.NumberConstant 3) 0 0
    (variable_does k number_spot b (number_is input acts b)) (constant_does k 3 (omega arith))

make_does :
    (input : List ℕ) (acts : ℕ) → acts + 1 < 2 ^ 64 → IsBegun (twin_block input acts) →
    Does (twin_block input acts) [] twin_make make_index left_over
make_does input acts few b =
    let k = twin_block input acts in
    let n = linked_length (links_of twin_code) 0 twin_code in
    loop_does k [] twin_few made_turns 6 make_index left_over 1 100
    (record {
      act = record { line_fits = omega arith; acts = few };
      registers = omega arith;
      held = omega arith;
      statement = make_linked;
      paid = omega (arith, n);
    })
    (few_tests input acts b)
    (record {
      begun = b;
      turns = omega arith;
      marked = (
        λ label e. absurd (cc e),
        (
          λ label e. absurd (cc e),
          (
            λ label e. absurd (cc e),
            (λ label e. absurd (cc e), (λ label e. absurd (cc e), λ label e. absurd (cc e))),
          ),
        ),
      );
    }) (
      count_does input acts few b,
      (
        allocate_does k [] node_spot pointer_spot area_spot node_members node_leaves 8 allocate_index left_over 100
            (allocation_is input acts 8 allocate_index pointer_spot few (is_structure input acts b) (omega arith)
            allocate_linked),
        (
          value_does input acts few b,
          (link_does input acts few b, (head_does input acts few b, tt)),
        ),
      ),
    )

-- ---- what the second one writes

-- while its place in the format list is in use
structure_placed :
    (k : Block) (place : EditPlace) → IsStructure k pointer_spot node_spot node_members node_leaves →
    IsStructure (placing place k) pointer_spot node_spot node_members node_leaves
structure_placed k place is =
    let h = is.pointer.known in
    record {
      pointer = record {
        begun = begun_placed k place is.pointer.begun;
        known = record {
          declared = h.declared;
          serial = h.serial;
          binding = h.binding;
          living = h.living;
          lives = h.lives;
          shape = h.shape;
          base = h.base;
          frame = h.frame;
          at = h.at;
          low = h.low;
          inside = h.inside;
        };
        own = is.pointer.own;
      };
      declared = is.declared;
      meant = is.meant;
      plain = is.plain;
      signature = is.signature;
      table = is.table;
      number = is.number;
      numbered = is.numbered;
      low = is.low;
    }

ends_placed : (s : Setting) (place : EditPlace) → Ends s → Ends (within place s)
ends_placed s place h =
    record { routines = h.routines; raises = h.raises; error = h.error; acts = h.acts; most = h.most }

written_does :
    (input : List ℕ) (acts line : ℕ) (place : EditPlace) → acts + 1 < 2 ^ 64 → IsBegun (twin_block input acts) →
    D.Does (within place (setting input acts line)) 0 (Y.NumberIn (member_of pointer_spot node_spot value_member))
written_does input acts line place few b =
    let k = setting input acts line in
    member_does (within place k) pointer_spot node_spot node_members node_leaves value_member
    (structure_placed (twin_block input acts) place (is_structure input acts b)) value_is
    (ends_placed k place (ends input acts line few)) refl

-- their format lists are found at each point
formats_known :
    (input : List ℕ) (acts : ℕ) → IsBegun (twin_block input acts) →
    KnowsFormats (twin_block input acts) (twin_formats 19)
unfolding L.formats_move_data
formats_known input acts b =
    list_placed twin_program (twin_block input acts) (twin_formats 19) twin_fits
    (main_of_program twin_program (run_of input acts) (twin_block input acts) refl refl refl b)
    ((omega arith, omega arith), (omega arith, tt)) refl refl

last_known :
    (input : List ℕ) (acts : ℕ) → IsBegun (twin_block input acts) →
    KnowsFormats (twin_block input acts) (twin_formats 23)
unfolding L.formats_move_data
last_known input acts b =
    list_placed twin_program (twin_block input acts) (twin_formats 23) twin_fits
    (main_of_program twin_program (run_of input acts) (twin_block input acts) refl refl refl b)
    ((omega arith, omega arith), (omega arith, tt)) refl refl

put_is :
    (input : List ℕ) (acts line index : ℕ) (source : Y.Number) → acts + 1 < 2 ^ 64 → IsBegun (twin_block input acts)
    → line < 2 ^ 31 →
    KnowsFormats (twin_block input acts) (twin_formats line) → StandsAt index (coded (put_of (twin_put source line))) →
    size_of (coded (put_of (twin_put source line))) + 100 ≤ length (linked_code twin_code) →
    IsPut 0 (twin_block input acts) [] (twin_put source line) index 0 100
put_is input acts line index source few b low known l paid =
    record {
      act = record { line_fits = low; acts = few };
      skip = tt;
      lists = ((record { fixed = refl; text = refl; are = tt; some = refl }, known), tt);
      registers = omega arith;
      one = omega arith;
      held = omega arith;
      error = λ place.
          error_ends (List ℕ) (within place (setting input acts line))
          (errorless_placed (setting input acts line) place (errorless input acts line few));
      statement = l;
      paid = omega (arith, paid);
    }

-- ---- the second loop

pointing_is :
    (input : List ℕ) (acts line index : ℕ) (x a : _) → acts + 1 < 2 ^ 64 → IsBegun (twin_block input acts) →
    HasArea (twin_block input acts) a → line < 2 ^ 31 →
    StandsAt index (coded (pointing pointer_spot (Y.OffsetIn (whole x)) a line)) →
    size_of (coded (pointing pointer_spot (Y.OffsetIn (whole x)) a line)) + 100 ≤ length (linked_code twin_code) →
    IsPointing (twin_block input acts) pointer_spot (Y.OffsetIn (whole x)) a line index 0 100
pointing_is input acts line index x a few b area low l paid =
    record {
      act = record { line_fits = low; acts = few };
      target = pointer_is input acts b;
      area = area;
      registers = omega arith;
      held = omega arith;
      statement = l;
      paid = omega (arith, paid);
    }

next_does :
    (input : List ℕ) (acts : ℕ) → acts + 1 < 2 ^ 64 → IsBegun (twin_block input acts) →
    Does (twin_block input acts) [] (O.assignment offset_spot (Y.OffsetIn (member_of pointer_spot node_spot
    next_member)) 20) next_index left_over
next_does input acts few b =
    let n = linked_length (links_of twin_code) 0 twin_code in
    let source = Y.OffsetIn (member_of pointer_spot node_spot next_member) in
    offset_does 0 (twin_block input acts) [] offset_spot of_area source 20 next_index left_over 0 100
    (offset_placed input acts 20 next_index offset_spot source few b (omega arith) next_linked (omega (arith, n)))
    (offset_is input acts b)
    (member_gives (setting input acts 20) pointer_spot node_spot node_members node_leaves next_member of_area
    (is_structure input acts b) next_is (ends input acts 20 few) refl)

see_does :
    (input : List ℕ) (acts : ℕ) → acts + 1 < 2 ^ 64 → IsBegun (twin_block input acts) →
    Does (twin_block input acts) [] twin_see see_index left_over
see_does input acts few b =
    let k = twin_block input acts in
    let n = linked_length (links_of twin_code) 0 twin_code in
    loop_does k [] twin_some seen_turns 17 see_index left_over 1 100
    (record {
      act = record { line_fits = omega arith; acts = few };
      registers = omega arith;
      held = omega arith;
      statement = see_linked;
      paid = omega (arith, n);
    })
    (offsets_test (setting input acts 17) false (Y.OffsetIn (whole offset_spot)) Y.NullOffset 0 0
    (offset_gives input acts 17 b) (null_gives (setting input acts 17)))
    (record {
      begun = b;
      turns = omega arith;
      marked = (
        λ label e. absurd (cc e),
        (λ label e. absurd (cc e), (λ label e. absurd (cc e), λ label e. absurd (cc e))),
      );
    }) (
      point_does k [] pointer_spot (Y.OffsetIn (whole offset_spot)) twin_spot 18 follow_index left_over 0 100
          (pointing_is input acts 18 follow_index offset_spot twin_spot few b (has_twin input acts) (omega arith)
          follow_linked (omega (arith, n)))
          (offset_gives input acts 18 b),
      (
        put_does 0 k [] (twin_put twin_seen 19) write_index left_over 0 100
            (put_is input acts 19 write_index twin_seen few b (omega arith) (formats_known input acts b) write_linked
            (omega (arith, n)))
            (((λ place. written_does input acts 19 place few b), tt), tt),
        (next_does input acts few b, tt),
      ),
    )

-- ---- the whole

null_does :
    (input : List ℕ) (acts : ℕ) → acts + 1 < 2 ^ 64 → IsBegun (twin_block input acts) →
    Does (twin_block input acts) [] (O.assignment offset_spot Y.NullOffset 3) twin_start left_over
null_does input acts few b =
    let n = linked_length (links_of twin_code) 0 twin_code in
    offset_does 0 (twin_block input acts) [] offset_spot of_area Y.NullOffset 3 twin_start left_over 0 100
    (offset_placed input acts 3 twin_start offset_spot Y.NullOffset few b (omega arith) null_linked (omega (arith, n)))
    (offset_is input acts b) (null_gives (setting input acts 3))

first_does :
    (input : List ℕ) (acts : ℕ) → acts + 1 < 2 ^ 64 → IsBegun (twin_block input acts) →
    Does (twin_block input acts) [] (O.assignment first_spot (Y.OffsetIn (whole offset_spot)) 13) first_index left_over
first_does input acts few b =
    let n = linked_length (links_of twin_code) 0 twin_code in
    let source = Y.OffsetIn (whole offset_spot) in
    offset_does 0 (twin_block input acts) [] first_spot of_area source 13 first_index left_over 0 100
    (offset_placed input acts 13 first_index first_spot source few b (omega arith) first_linked (omega (arith, n)))
    (first_is input acts b) (offset_gives input acts 13 b)

copying_is :
    (input : List ℕ) (acts : ℕ) → acts + 1 < 2 ^ 64 → IsBegun (twin_block input acts) →
    IsCopying (twin_block input acts) [] twin_spot area_spot 15 copy_index 100
copying_is input acts few b =
    record {
      act = record { line_fits = omega arith; acts = few };
      target = has_twin input acts;
      source = has_area input acts;
      ends = ends input acts 15 few;
      full = tt;
      statement = copy_linked;
    }

change_does :
    (input : List ℕ) (acts : ℕ) → acts + 1 < 2 ^ 64 → IsBegun (twin_block input acts) →
    Does (twin_block input acts) [] (B.assignment pointer_spot node_spot value_member (Y.NumberConstant 0) 16)
    change_index left_over
change_does input acts few b =
    let n = linked_length (links_of twin_code) 0 twin_code in
    assign_does (twin_block input acts) [] pointer_spot node_spot node_members node_leaves value_member
    (Y.NumberConstant 0) 16 change_index left_over 0 100
    (value_assigned input acts 16 change_index 0 (Y.NumberConstant 0) few b (omega arith) (omega arith) change_linked
    (omega (arith, n)))
    (constant_does (setting input acts 16) 0 (omega arith))

back_does :
    (input : List ℕ) (acts : ℕ) → acts + 1 < 2 ^ 64 → IsBegun (twin_block input acts) →
    Does (twin_block input acts) [] (N.assignment number_spot twin_new 22) back_index left_over
back_does input acts few b =
    let k = twin_block input acts in
    let n = linked_length (links_of twin_code) 0 twin_code in
    number_does k [] number_spot twin_new 22 back_index left_over 0 100
    (number_assigned input acts 22 back_index 0 twin_new few b (omega arith) (omega arith) back_linked
    (omega (arith, n)))
    (by_offset (setting input acts 22) (Y.OffsetIn (whole first_spot)) area_spot node_spot node_members node_leaves
    value_member 0
    (record {
      declared = refl;
      meant = refl;
      plain = refl;
      signature = 2;
      table = refl;
      number = omega arith;
      numbered = refl;
      area = has_area input acts;
      ends = ends input acts 22 few;
      none = refl;
      words = omega arith;
      waits = λ i. refl;
    })
    value_is (variable_gives (setting input acts 22) first_spot of_area b (first_is input acts b)))

counted_does :
    (input : List ℕ) (acts : ℕ) (place : EditPlace) → IsBegun (twin_block input acts) →
    D.Does (within place (setting input acts 23)) 0 (Y.NumberIn (whole number_spot))
counted_does input acts place b =
    let k = twin_block input acts in
    variable_does (within place (setting input acts 23)) number_spot (begun_placed k place b)
    (number_placed k place number_spot (number_is input acts b))

twin_each :
    (input : List ℕ) (acts : ℕ) → acts + 1 < 2 ^ 64 → IsBegun (twin_block input acts) →
    EachDoes (twin_block input acts) [] twin_body (body_index (main_of (twin_whole input acts))) left_over
twin_each input acts few b =
    let k = twin_block input acts in
    let n = linked_length (links_of twin_code) 0 twin_code in (
      null_does input acts few b,
      (
        number_does k [] number_spot (Y.NumberConstant 0) 4 zero_index left_over 0 100
            (number_assigned input acts 4 zero_index 0 (Y.NumberConstant 0) few b (omega arith) (omega arith)
            zero_linked
            (omega (arith, n)))
            (constant_does (setting input acts 4) 0 (omega arith)),
        (
          allocate_does k [] node_spot spare_spot area_spot node_members node_leaves 5 before_index left_over 100
              (allocation_is input acts 5 before_index spare_spot few (is_spare input acts b) (omega arith)
              before_linked),
          (
            make_does input acts few b,
            (
              first_does input acts few b,
              (
                free_does k [] spare_spot node_spot node_members node_leaves 14 free_index left_over 100
                    (record {
                      act = record { line_fits = omega arith; acts = few };
                      structure = is_spare input acts b;
                      ends = ends input acts 14 few;
                      statement = free_linked;
                    }),
                (
                  copy_does k [] twin_spot area_spot 15 copy_index left_over 100 (copying_is input acts few b),
                  (
                    change_does input acts few b,
                    (
                      see_does input acts few b,
                      (
                        back_does input acts few b,
                        (
                          put_does 0 k [] (twin_put (Y.NumberIn (whole number_spot)) 23) last_index left_over 0 100
                              (put_is input acts 23 last_index (Y.NumberIn (whole number_spot)) few b (omega arith)
                              (last_known input acts b) last_linked
                              (omega (arith, n)))
                              (((λ place. counted_does input acts place b), tt), tt),
                          tt,
                        ),
                      ),
                    ),
                  ),
                ),
              ),
            ),
          ),
        ),
      ),
    )

twin_is :
    (input : List ℕ) (acts : ℕ) → acts + 1 < 2 ^ 64 →
    IsWhole (twin_whole input acts) (Q.first_bytes (picture_of parts twin_program))
twin_is input acts few =
    let l = back_of (first_frame image_parts) (main_called 0) start_linked in
    record {
      start = record {
        linked = start_linked;
        differ = all_differ;
        bytes = first_length (picture_of parts twin_program) twin_fits;
        told = constants_stand twin_code twin_fits;
      };
      made = all_procedure (surroundings_of (twin_image input acts)) (linked_code twin_code)
          (main_of (twin_whole input acts)) (start_point (twin_image input acts)) no_numbers twin_variables
          (twin_all input acts);
      callee = record {
        coded = record { level = omega arith; line = omega arith; saved = omega arith; back = omega arith };
        calls = first_of (CallTo (ProcedureEntry 0)) _ (rest_of _ _ (rest_of _ _ (rest_of _ _ l)));
        place = refl;
        stands = main_linked;
        end = refl;
        kind = refl;
        labels = (
          λ label e. absurd (cc e),
          (
            λ label e. absurd (cc e),
            (
              λ label e. absurd (cc e),
              (
                λ label e. absurd
                    (cc e),
                (
                  λ label e. absurd (cc e),
                  (
                    λ label e. absurd (cc e),
                    (
                      λ label e. absurd (cc e),
                      (
                        λ label e. absurd
                            (cc e),
                        (
                          λ label e. absurd (cc e),
                          (
                            λ label e. absurd (cc e),
                            (
                              λ label e. absurd (cc e),
                              λ label e. absurd
                                  (cc e),
                            ),
                          ),
                        ),
                      ),
                    ),
                  ),
                ),
              ),
            ),
          ),
        );
        acts = few;
      };
      room = record { room = omega arith; shallow = refl; parent = tt; idle = refl };
      level = refl;
      procedures = refl;
      statics = refl;
    }

abbrev pub twin_layout : Layout
twin_layout =
    record {
      main = twin_main;
      others = [];
      environment = twin_environment;
      entry = twin_entry;
      end = twin_finish;
      units = [];
      constants = constants_in twin_code;
      fills = [];
      serials = 7;
      made = newest_all parts twin_variables;
    }

pub twin_program_runs : Runs twin_program twin_layout
twin_program_runs =
    record {
      whole = λ input acts few. twin_is input acts few;
      each = λ input acts few b. twin_each input acts few b;
    }
