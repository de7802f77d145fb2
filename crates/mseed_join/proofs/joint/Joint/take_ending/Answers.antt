use Rattle.std.proofs.Common.{ap, ◌∙◌, Bool}
use Rattle.mseed_join.specs.declared.joint.PlaceInPart.TheVariants.{Whole}
use Rattle.mseed_join.proofs.Rows.{ending_or, fault_taken, faults_taken}
use Rattle.mseed_join.proofs.joint.Joint.take_ending.Goals as goal

pub returns-in-Some : goal.returns-in-Some
returns-in-Some g c =
    fault_taken c.args.self.now c.take_fault.new.self c.args.line.now c.args.bytes c.args.has_faults c.in-Some.fault
    c.take_fault.result c.requires.place c.in-Some.ensures.read c.in-Some.ensures.fits c.take_fault.ensures.step
    c.take_fault.ensures.limit

pub returns-then-has_faults : goal.returns-then-has_faults
returns-then-has_faults g c =
    ending_or c.args.self.now c.take_header.new.self c.args.line.now c.args.bytes c.args.has_faults c.begun_as.result
    c.take_header.result c.requires.place c.begun_as.ensures c.requires.ended c.take_header.ensures.step
    c.take_header.ensures.line c.take_header.ensures.bad c.in_default.ensures.none (λ e. cc (c.if-has_faults.true, e))

pub returns-in-Some-read_faults_line : goal.returns-in-Some-read_faults_line
returns-in-Some-read_faults_line g c =
    let faulty = c.in-Some-read_faults_line in
    faults_taken c.args.self.now c.take_faults.new.self c.args.line.now c.args.bytes faulty.faults
    c.take_faults.result (c.requires.place ∙ ap (λ (b : Bool). Whole c.args.bytes b) c.if-has_faults.false)
    faulty.ensures.read faulty.ensures.fits c.take_faults.ensures.step c.take_faults.ensures.limit

pub returns : goal.returns
returns g c =
    ending_or c.args.self.now c.take_header-2.new.self c.args.line.now c.args.bytes c.args.has_faults
    c.begun_as.result c.take_header-2.result c.requires.place c.begun_as.ensures c.requires.ended
    c.take_header-2.ensures.step c.take_header-2.ensures.line c.take_header-2.ensures.bad c.in_default.ensures.none
    (λ e. c.in_default-read_faults_line.ensures.none)
