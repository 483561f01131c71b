use Rattle.std.proofs.Common.{◌≡◌, ◌%◌, length}
use Rattle.std.specs.Slice.Iter.{chunks_exact_rest, chunks_exact_size}
use Rattle.bytemap.specs.ByteMap.{fine}
use Rattle.bytemap.proofs.is_fine.Given as goal

-- what is left decides
abbrev pub invariant-loop-part : goal.invariant-loop-part
invariant-loop-part l = record {
  size : chunks_exact_size l.part-iterator ≡ 32;
  whole : length (chunks_exact_rest l.part-iterator) % 32 ≡ 0;
  left : fine l.map ≡ fine (chunks_exact_rest l.part-iterator);
}
