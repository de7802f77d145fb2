-- What fetching comes to by the calls of its device.
use Rattle.std.proofs.Common.{◌≡◌, ℕ, List, Option, ap, arith, length}
use Rattle.mseed_stream.specs.Device.{BytesWritten}
use Rattle.mseed_stream.specs.Exchanges.{Exchange}
use Rattle.slink_links.specs.Dialled.{Dialled, dialled, nothing_dialled}
use Rattle.slink_links.specs.Fetched.{FetchesAll, HasCalled, calls_of, server_of}
use Rattle.slink_links.specs.Out.{AreOut}
use Rattle.slink_links.specs.Trouble.{IsOfLastTry}
use Rattle.slink_links.specs.declared.fetching.FetchEnd.{FetchEnd}
use Rattle.slink_links.specs.declared.plan.FetchPlan.{FetchPlan}
use Rattle.slink_links.specs.declared.trouble.Trouble.{Trouble}
use Rattle.mseed_words.specs.declared.request.Fetching.{Fetching}
use Rattle.mseed_feed.specs.Commands.{HasFetchedOver}
use Rattle.mseed_feed.specs.Plans.{IsFetchPlan}

-- no link is out of a device at which no call was made
pub none_out : (calls failures : ℕ) (given_back : List Exchange) (trouble : Option Trouble) (paused : List ℕ)
    → dialled calls failures given_back trouble paused ≡ nothing_dialled → AreOut 0 calls failures given_back
none_out calls failures given_back trouble paused none =
    let no_calls : calls ≡ 0 = ap (λ (d : Dialled). d.calls.dials) none in
    let no_failures : failures ≡ 0 = ap (λ (d : Dialled). d.failures) none in
    let no_links : length given_back ≡ 0 = ap (λ (d : Dialled). length d.calls.given_back) none in
    omega (arith, no_calls, no_failures, no_links)

-- what was fetched over such a device, by the plan for a request
pub fetched_over : (fetching : Fetching) (plan plan' : FetchPlan) (calls calls' failures failures' : ℕ)
    (given_back given_back' : List Exchange) (trouble trouble' : Option Trouble) (paused paused' : List ℕ) (status : ℕ)
    (w w' r r' : BytesWritten) → IsFetchPlan fetching plan
    → dialled calls failures given_back trouble paused ≡ nothing_dialled
    → ((end : FetchEnd) × (last : Option Trouble)
    × FetchesAll end (server_of plan) last plan.report_next status plan.client plan'.client w w' r r'
    × HasCalled end plan.tries plan.client plan'.client w w' (calls_of calls given_back paused)
    (calls_of calls' given_back' paused') × IsOfLastTry plan.tries last trouble')
    → AreOut 0 calls' failures' given_back'
    → HasFetchedOver fetching (dialled calls' failures' given_back' trouble' paused') status w w' r r'
fetched_over fetching plan plan' calls calls' failures failures' given_back given_back' trouble trouble' paused paused'
    status w w' r r' is none ended out = record {
      end = ended.0;
      trouble = ended.1;
      last = plan'.client;
      fetched = rw (is.client, is.report_next, is.host, is.port) at ended.2;
      called = rw (ap (λ (d : Dialled). d.calls) none, is.client, is.tries) at ended.3;
      tried = rw is.tries at ended.4;
      out = out;
    }
