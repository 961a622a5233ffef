use Rattle.std.proofs.Common.{◌≡◌, ◌-◌, ◌/◌, ◌^◌, ◌≤◌, ◌++◌, length, take, drop}
use Rattle.b2_dectext.specs.Digits.{digit_bytes}
use Rattle.b2_dectext.proofs.printing.put_digits.Given as goal

abbrev pub invariant-loop-place : goal.invariant-loop-place
invariant-loop-place l = record {
  long : length l.into ≡ 24;
  above : l.at ≤ l.place;
  below : l.place ≤ l.end;
  left : l.left ≡ l.n / 10 ^ (l.end - l.place);
  front : take l.place l.into ≡ take l.place l.fn.into;
  back : drop l.place l.into ≡ digit_bytes (l.end - l.place) l.n ++ drop l.end l.fn.into;
}

abbrev pub decreases-loop-place : goal.decreases-loop-place
decreases-loop-place l = l.place - l.at
