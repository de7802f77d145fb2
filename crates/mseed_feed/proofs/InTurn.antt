-- What serving one connection after another comes to by the calls of its device.
use Rattle.std.proofs.Common.{◌≡◌, ◌↔◌, ℕ, ◌+◌, List, ap, arith, length, subst}
use Rattle.mseed_stream.specs.Device.{BytesWritten}
use Rattle.mseed_stream.specs.Exchanges.{Exchange}
use Rattle.slink_feed.specs.Window.{Window}
use Rattle.slink_links.specs.Out.{AreOut}
use Rattle.slink_links.specs.Served.{HasServed, HasServedEach}
use Rattle.slink_links.specs.Taken.{Taken, nothing_taken, taken}
use Rattle.mseed_feed.specs.InTurn.{HasServedTo}

-- no link is out of a device at which no call was made
pub none_out : (calls failures lost : ℕ) (given_back : List Exchange)
    → taken calls failures lost given_back ≡ nothing_taken → AreOut 0 calls failures given_back
none_out calls failures lost given_back none =
    let no_calls : calls ≡ 0 = ap (λ (t : Taken). t.calls) none in
    let no_failures : failures ≡ 0 = ap (λ (t : Taken). t.failures) none in
    let no_links : length given_back ≡ 0 = ap (λ (t : Taken). length t.given_back) none in
    omega (arith, no_calls, no_failures, no_links)

-- what was served at such a device
pub served_to : (feed : List Window) (connections calls calls' failures failures' lost lost' : ℕ)
    (given_back given_back' : List Exchange) (status : ℕ) (old new : BytesWritten)
    → taken calls failures lost given_back ≡ nothing_taken → calls' ≡ calls + connections
    → AreOut 0 calls' failures' given_back' → HasServedEach feed given_back given_back'
    → (status ≡ 0 ↔ (failures' ≡ failures) × (lost' ≡ lost)) → HasServed status old new
    → HasServedTo feed connections (taken calls' failures' lost' given_back') status old new
served_to feed connections calls calls' failures failures' lost lost' given_back given_back' status old new none accepts
    out served fine reported =
    let no_calls : calls ≡ 0 = ap (λ (t : Taken). t.calls) none in
    let no_failures : failures ≡ 0 = ap (λ (t : Taken). t.failures) none in
    let none_lost : lost ≡ 0 = ap (λ (t : Taken). t.lost) none in record {
      accepts = omega (arith, accepts, no_calls);
      out = out;
      served = subst (λ (before : List Exchange). HasServedEach feed before given_back')
          (ap (λ (t : Taken). t.given_back) none) served;
      fine = rw (no_failures, none_lost) at fine;
      reported = reported;
    }
