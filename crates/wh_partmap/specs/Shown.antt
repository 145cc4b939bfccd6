-- What contracts see of a map of partitions.
use Rattle.std.specs.Prelude.{reverse, vec_capacity, vec_len, ◌-◌}
use Rattle.wh_partmap.specs.History.{PartHistory}
use Rattle.wh_partmap.specs.declared.part_map.PartMap.TheInside.{Inside}

abbrev pub shown : Inside → PartHistory
shown m =
    record {
      born = m.born;
      parts = m.parts;
      since = m.since;
      earlier = reverse m.earlier.items;
      made = m.made;
      touches = m.touches.items;
      spare = vec_capacity m.touches - vec_len m.touches;
    }
