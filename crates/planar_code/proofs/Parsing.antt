-- At most one of the faults of bytes fits.
use Rattle.std.proofs.Common.{◌≡◌, ℕ, ◌<◌, List, [], ◌++◌, length, take, drop, refl, sym, ap, subst, arith, append-nil}
use Rattle.std.proofs.lemmas.List.{take-append-drop, length-drop}
use Rattle.planar_code.specs.declared.record.ParseFault.{ParseFault}
use Rattle.planar_code.specs.declared.record.ParseFault.TheVariants as fault
use Rattle.planar_code.specs.Stream.{IsRecord, IsUnfinished, NoRecordFirst}
use Rattle.planar_code.specs.Split.{BeginsWithZero}
use Rattle.planar_code.specs.Started.{IsOversize}
use Rattle.planar_code.specs.Parse.{HasBytesAfter, IsParseFault}
use Rattle.planar_code.proofs.Records.{no_record-unfinished, no_record-front}
use Rattle.planar_code.proofs.LeadsTo.{no_record-zero, no_record-oversize}
use Rattle.planar_code.proofs.Splits.{zero_unfinished}

-- bytes in which no record stands first are no record
pub no_record-first : (bytes : List ℕ) → NoRecordFirst bytes → IsRecord bytes → ⊥
no_record-first bytes none r = none bytes [] r (sym (append-nil bytes))

-- a record with more bytes after it is no record
pub no_record-after : (bytes : List ℕ) → HasBytesAfter bytes → IsRecord bytes → ⊥
no_record-after bytes h r = h.more (no_record-front h.first h.after h.whole (subst IsRecord h.parts r))

-- a record that ends before the bytes do
pub bytes_after : (bytes : List ℕ) (end : ℕ) → IsRecord (take end bytes) → end < length bytes → HasBytesAfter bytes
bytes_after bytes end r more = record {
  first = take end bytes;
  after = drop end bytes;
  parts = sym (take-append-drop end bytes);
  whole = r;
  more = λ e. omega (arith, ap length e, length-drop end bytes);
}

-- what is oversize is no beginning of a record
oversize_unfinished : (bytes : List ℕ) → IsOversize bytes → IsUnfinished bytes → ⊥
oversize_unfinished bytes o u = o.never u.missing (bytes ++ u.missing) [] u.whole (sym (append-nil (bytes ++ u.missing)))

-- where one fault fits, no other does
short_only : (bytes : List ℕ) → IsUnfinished bytes → (g : ParseFault) → IsParseFault bytes g → fault.Unfinished ≡ g
short_only bytes h fault.Unfinished k = refl
short_only bytes h fault.Order k = absurd (zero_unfinished bytes k h)
short_only bytes h fault.Oversize k = absurd (oversize_unfinished bytes k h)
short_only bytes h fault.Long k = absurd (no_record-unfinished bytes h k.first k.after k.whole k.parts)
short_only bytes h fault.Memory k = absurd (no_record-first bytes (no_record-unfinished bytes h) k)

order_only : (bytes : List ℕ) → BeginsWithZero bytes → (g : ParseFault) → IsParseFault bytes g → fault.Order ≡ g
order_only bytes h fault.Unfinished k = absurd (zero_unfinished bytes h k)
order_only bytes h fault.Order k = refl
order_only bytes h fault.Oversize k = absurd (k.nonzero h)
order_only bytes h fault.Long k = absurd (no_record-zero bytes h k.first k.after k.whole k.parts)
order_only bytes h fault.Memory k = absurd (no_record-first bytes (no_record-zero bytes h) k)

oversize_only : (bytes : List ℕ) → IsOversize bytes → (g : ParseFault) → IsParseFault bytes g → fault.Oversize ≡ g
oversize_only bytes h fault.Unfinished k = absurd (oversize_unfinished bytes h k)
oversize_only bytes h fault.Order k = absurd (h.nonzero k)
oversize_only bytes h fault.Oversize k = refl
oversize_only bytes h fault.Long k = absurd (no_record-oversize bytes h k.first k.after k.whole k.parts)
oversize_only bytes h fault.Memory k = absurd (no_record-first bytes (no_record-oversize bytes h) k)

long_only : (bytes : List ℕ) → HasBytesAfter bytes → (g : ParseFault) → IsParseFault bytes g → fault.Long ≡ g
long_only bytes h fault.Unfinished k = absurd (no_record-unfinished bytes k h.first h.after h.whole h.parts)
long_only bytes h fault.Order k = absurd (no_record-zero bytes k h.first h.after h.whole h.parts)
long_only bytes h fault.Oversize k = absurd (no_record-oversize bytes k h.first h.after h.whole h.parts)
long_only bytes h fault.Long k = refl
long_only bytes h fault.Memory k = absurd (no_record-after bytes h k)

memory_only : (bytes : List ℕ) → IsRecord bytes → (g : ParseFault) → IsParseFault bytes g → fault.Memory ≡ g
memory_only bytes r fault.Unfinished k = absurd (no_record-first bytes (no_record-unfinished bytes k) r)
memory_only bytes r fault.Order k = absurd (no_record-first bytes (no_record-zero bytes k) r)
memory_only bytes r fault.Oversize k = absurd (no_record-first bytes (no_record-oversize bytes k) r)
memory_only bytes r fault.Long k = absurd (no_record-after bytes k r)
memory_only bytes r fault.Memory k = refl

-- of the faults at most one fits
pub fault_same : (bytes : List ℕ) (f g : ParseFault) → IsParseFault bytes f → IsParseFault bytes g → f ≡ g
fault_same bytes fault.Unfinished g h k = short_only bytes h g k
fault_same bytes fault.Order g h k = order_only bytes h g k
fault_same bytes fault.Oversize g h k = oversize_only bytes h g k
fault_same bytes fault.Long g h k = long_only bytes h g k
fault_same bytes fault.Memory g h k = memory_only bytes h g k
