-- The figures, by computing. Assumes nothing.
use Rattle.std.proofs.Common.{refl}
use Rattle.common.specs.Bits.{bit_set}
use Rattle.privilege.specs.Access.{fetch_size, data_size, legal_size, allows_of}
use Rattle.privilege.specs.Addresses.{addresses}
use Rattle.privilege.specs.Corners.{Corners}
use Rattle.privilege.specs.Region.{grants_of, some_grants, all_allowed, field_of, with_field}
use Rattle.privilege.specs.Registers.{region_field, sr_read, sr_written}
use Rattle.privilege.specs.State.{no_regions, status_of, status_set}
use Rattle.privilege.specs.Trap.{trapped, returned}

pub corners_hold : Corners
unfolding bit_set fetch_size data_size legal_size allows_of addresses grants_of some_grants all_allowed field_of with_field region_field sr_read sr_written no_regions status_of status_set trapped returned
corners_hold =
    record {
      before_region = refl;
      other_access = refl;
      word_in = refl;
      word_over = refl;
      around = refl;
      numbers = refl;
      whole_number = λ s reg. refl;
      status_all = (refl, refl);
      there_and_back = (refl, refl, refl);
      vctl = λ s reg. (refl, refl);
      wide_frame = refl;
      sizes = (refl, refl, refl, refl, refl, refl, refl, refl);
    }
