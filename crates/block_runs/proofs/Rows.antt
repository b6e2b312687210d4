-- The worked row is a call of the smallest kind.
use Rattle.std.proofs.Common.{◌≡◌, [], ◌∷◌, Bool, true, false, refl, inl, inr, arith}
use Rattle.storage_relation.specs.Stored.{Places}
use Rattle.pli_coding.specs.Assembly.{Code, Datum, ProcedureEntry, Plain, BaseIn, OffsetOf, OffsetAhead, JumpTo, CallTo}
use Rattle.pli_coding.specs.Assembly.{JumpAhead, JumpBack, Mark}
use Rattle.pli_coding.specs.Linking.{linked}
use Rattle.run_steps.specs.DataNamed.{IsNamed}
use Rattle.run_steps.specs.Items.{Linked}
use Rattle.run_steps.proofs.Jumps.{front_of, first_of, rest_of}
use Rattle.run_steps.proofs.Linking.{has_items, linked_length}
use Rattle.block_runs.specs.Beginnings.{IsBeginning, CallStands, beginning_code}
use Rattle.block_runs.specs.EmptyProcedures.{empty_code}
use Rattle.block_runs.specs.Rows.{row_links, row_code, row_call, row_point, row_numbers, row_surroundings}

pub row_begins : (π : Places) → IsBeginning row_surroundings (row_point π) row_numbers row_call
row_begins π =
    record {
      next = record {
        layer = record { level = refl; runs = refl; units = refl; parent = (omega arith, refl) };
        laid = record {
          above = refl;
          fixed = omega arith;
          falls = omega arith;
          free = omega arith;
          saved = omega arith;
          told = λ n v e. absurd (cc e);
        };
        entries = ([], refl);
        edits = refl;
        over = ((([], refl), ([], refl)), tt);
      };
      entering = record {
        entered = refl;
        given = refl;
        arguments = [];
        below = refl;
        many = refl;
        places = refl;
        units = refl;
      };
      shallow = refl;
      kind = refl;
      level = omega arith;
      line = omega arith;
      few = omega arith;
      back = omega arith;
      held = refl;
      words = λ n less. omega (arith, less);
      waits = λ n. refl;
      told = λ n. refl;
      list = refl;
      top = refl;
      lower = refl;
    }

-- code that names no data
names_none : Code → Bool
names_none [] = true
names_none (OffsetOf r s ∷ xs) = false
names_none (Plain i ∷ xs) = names_none xs
names_none (BaseIn r ∷ xs) = names_none xs
names_none (OffsetAhead r n ∷ xs) = names_none xs
names_none (JumpTo s ∷ xs) = names_none xs
names_none (CallTo s ∷ xs) = names_none xs
names_none (JumpAhead n ∷ xs) = names_none xs
names_none (JumpBack n ∷ xs) = names_none xs
names_none (Mark s ∷ xs) = names_none xs

none_named : (d : Datum) (xs : Code) → names_none xs ≡ true → IsNamed d xs → ⊥
unfolding names_none
none_named d [] e h = h
none_named d (OffsetOf r s ∷ xs) e h = cc e
none_named d (Plain i ∷ xs) e (inl h) = h
none_named d (Plain i ∷ xs) e (inr h) = none_named d xs e h
none_named d (BaseIn r ∷ xs) e (inl h) = h
none_named d (BaseIn r ∷ xs) e (inr h) = none_named d xs e h
none_named d (OffsetAhead r n ∷ xs) e (inl h) = h
none_named d (OffsetAhead r n ∷ xs) e (inr h) = none_named d xs e h
none_named d (JumpTo s ∷ xs) e (inl h) = h
none_named d (JumpTo s ∷ xs) e (inr h) = none_named d xs e h
none_named d (CallTo s ∷ xs) e (inl h) = h
none_named d (CallTo s ∷ xs) e (inr h) = none_named d xs e h
none_named d (JumpAhead n ∷ xs) e (inl h) = h
none_named d (JumpAhead n ∷ xs) e (inr h) = none_named d xs e h
none_named d (JumpBack n ∷ xs) e (inl h) = h
none_named d (JumpBack n ∷ xs) e (inr h) = none_named d xs e h
none_named d (Mark s ∷ xs) e (inl h) = h
none_named d (Mark s ∷ xs) e (inr h) = none_named d xs e h

pub row_linked : Linked row_links (linked row_links 0 row_code) 0 row_code
unfolding names_none
row_linked =
    let n = linked_length row_links 0 row_code in
    record {
      small' = omega (arith, n);
      inside = omega (arith, n);
      has = has_items row_links row_code refl;
      named = λ d h. absurd (none_named d row_code refl h);
    }

pub row_whole : Linked row_links (linked row_links 0 row_code) 2 (empty_code row_call)
row_whole =
    rest_of (Mark (ProcedureEntry 1)) (empty_code row_call)
    (rest_of (CallTo (ProcedureEntry 1)) (Mark (ProcedureEntry 1) ∷ empty_code row_call) row_linked)

pub row_stands : CallStands row_surroundings (linked row_links 0 row_code) row_call 0 2
row_stands =
    record {
      calls = first_of (CallTo (ProcedureEntry 1)) (Mark (ProcedureEntry 1) ∷ empty_code row_call) row_linked;
      place = refl;
      begins = front_of (beginning_code row_call) _ row_whole;
      back = refl;
    }
