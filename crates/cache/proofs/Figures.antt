-- The figures, by computing. Assumes nothing.
use Rattle.std.proofs.Common.{refl}
use Rattle.common.specs.Bits.{bit_set}
use Rattle.cache.specs.Bank.{no_tags, accessed, enabled_to, controlled, drop_lines, swept}
use Rattle.cache.specs.Cache.{cacheable_at, loaded, external_written, ctrl_word, reg_read, reg_written, lane_of, merged}
use Rattle.cache.specs.Corners.{Corners}

pub corners_hold : Corners
unfolding bit_set no_tags accessed enabled_to controlled drop_lines swept cacheable_at loaded external_written ctrl_word reg_read reg_written lane_of merged
corners_hold =
    record {
      two_lines = λ c. refl;
      one_line = λ c. refl;
      around = λ c. refl;
      topmost = λ c. refl;
      info = λ c. refl;
      others = λ c. (refl, refl, refl, refl);
      ctrl = λ start size. (refl, refl, refl, refl);
      counters = λ start size p. (refl, refl, refl, refl);
      read_only = λ c v. (refl, refl, refl);
      strobes = λ start size p. (refl, refl, refl);
      disabled = λ start size p. refl;
      at_reset = λ start size p. refl;
      wrap = (refl, refl);
      range = (refl, refl, refl, refl);
      saturation = (refl, refl, refl);
      whole_case = (refl, refl);
      lanes = λ c. (refl, refl, refl, refl);
      merges = (refl, refl, refl);
      byte_strobe = λ start size p. refl;
    }
