use Rattle.std.proofs.Common.{◌∙◌, ap, arith}
use Rattle.mseed_time.specs.Btime.{first_fault}
use Rattle.mseed_time.specs.Parts.{parts_of}
use Rattle.mseed_time.proofs.Reading.{number_at-kept, first_fault-none}
use Rattle.mseed_time.proofs.btime.Btime.write.Goals as goal

pub returns-clause-fields : goal.returns-clause-fields
returns-clause-fields c =
    let put_year = c.put_u16 in
    let put_day = c.put_u16-2 in
    let put_fraction = c.put_u16-3 in
    let early = number_at-kept c.args.order 0 2 put_day.new.bytes put_year.new.bytes (omega arith)
    put_day.ensures.before in
    let year = number_at-kept c.args.order 0 8 put_fraction.new.bytes put_day.new.bytes (omega arith)
    put_fraction.ensures.before in
    let day = number_at-kept c.args.order 2 8 put_fraction.new.bytes put_day.new.bytes (omega arith)
    put_fraction.ensures.before in
    let hour = put_fraction.ensures.before 4 (omega arith) ∙ put_day.ensures.after 4 (omega arith)
    ∙ put_year.ensures.after 4 (omega arith) in
    let minute = put_fraction.ensures.before 5 (omega arith) ∙ put_day.ensures.after 5 (omega arith)
    ∙ put_year.ensures.after 5 (omega arith) in
    let second = put_fraction.ensures.before 6 (omega arith) ∙ put_day.ensures.after 6 (omega arith)
    ∙ put_year.ensures.after 6 (omega arith) in
    cc

pub returns-clause-reads_back : goal.returns-clause-reads_back
returns-clause-reads_back c = ap first_fault (returns-clause-fields c)
    ∙ first_fault-none (parts_of c.args.self.now) c.args.self.now.valid
