use Rattle.std.proofs.Common.{◌≡◌, ◌-◌, ◌≤◌, length, slice_index}
use Rattle.rv_meaning.specs.Machine.{memory_size}
use Rattle.rv_machine.specs.Operations.{program_at}
use Rattle.rv_machine.specs.Outcomes.{state}
use Rattle.rv_machine.specs.Places.{IsPlaced, left, address}
use Rattle.rv_machine.specs.Steps.{RanFor}
use Rattle.rv_machine.proofs.legs.run_legs.Given as goal

abbrev pub invariant-legs : goal.invariant-legs
invariant-legs g l = record {
  all_ran : RanFor g.S.Services.serves (program_at l.base l.code) (left l.fn.place - left l.place)
      (record {
        services = l.initial.services;
        state = state l.initial.registers l.initial.storage.bytes
            (address l.base l.fn.place.index);
      })
      (record { services = l.services; state = state l.registers l.storage.bytes (address l.base l.place.index) });
  placed : IsPlaced l.place;
  within : left l.place ≤ left l.fn.place;
  zero : slice_index l.registers 0 ≡ 0;
  sized : length l.storage.bytes ≡ memory_size;
}

abbrev pub decreases-legs : goal.decreases-legs
decreases-legs g l = left l.place
