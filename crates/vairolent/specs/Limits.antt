-- The limits that a caller in another language is told.
use Rattle.model.specs.Limits.{slots, semaphores, processes, operations, value_max, mode_max, all_adjustments}
use Rattle.host.specs.Parts.{host_bytes}
use Rattle.vairolent.specs.declared.Limits.{Limits}

abbrev pub the_limits : Limits
the_limits =
    record {
      sets = slots;
      semaphores = semaphores;
      processes = processes;
      operations = operations;
      value_max = value_max;
      mode_max = mode_max;
      row_bytes = host_bytes;
      adjustments = all_adjustments;
    }
