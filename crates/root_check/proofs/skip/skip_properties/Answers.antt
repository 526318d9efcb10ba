use Rattle.root_check.proofs.Literals.{properties_left_all, properties_left_property, properties_left_named}
use Rattle.root_check.proofs.Literals.{properties_left_end, properties_left_none, property_room, properties_skipped}
use Rattle.commands.specs.declared.root.PropertyCommand.TheVariants as properties
use Rattle.text.proofs.Lists.{told}
use Rattle.std.specs.Prelude.{Ok}
use mathlib.Core.Path.{◌≡◌}
use native.Mathlib.Omega.{arith}
use Rattle.root_check.proofs.skip.skip_properties.Goals as goal

pub loop-i-init : goal.loop-i-init
loop-i-init c = (omega arith, properties_left_all _)

pub loop-i-preserved-in-Ok-Property : goal.loop-i-preserved-in-Ok-Property
loop-i-preserved-in-Ok-Property c =
    let e : c.property_command_at.result ≡ Ok (properties.Property c.in-Ok-Property.field-0-0) = cc in
    let stands = told c.property_command_at.ensures e in
    (property_room c.args.tape.now c.loop-i.i c.loop-i.invariant.0 stands, properties_left_property c.loop-i.invariant.1 _ stands)

pub loop-i-smaller-in-Ok-Property : goal.loop-i-smaller-in-Ok-Property
loop-i-smaller-in-Ok-Property c =
    let e : c.property_command_at.result ≡ Ok (properties.Property c.in-Ok-Property.field-0-0) = cc in
    omega (arith, property_room c.args.tape.now c.loop-i.i c.loop-i.invariant.0 (told c.property_command_at.ensures e))

pub loop-i-smaller : goal.loop-i-smaller
loop-i-smaller c =
    let e : c.property_command_at.result ≡ Ok (properties.Named c.in-Ok-Named.field-0-0 c.in-Ok-Named.field-0-1) = cc in
    omega (arith, property_room c.args.tape.now c.loop-i.i c.loop-i.invariant.0 (told c.property_command_at.ensures e))

pub loop-i-preserved : goal.loop-i-preserved
loop-i-preserved c =
    let e : c.property_command_at.result ≡ Ok (properties.Named c.in-Ok-Named.field-0-0 c.in-Ok-Named.field-0-1) = cc in
    let stands = told c.property_command_at.ensures e in
    (property_room c.args.tape.now c.loop-i.i c.loop-i.invariant.0 stands, properties_left_named c.loop-i.invariant.1 _ _ stands)

pub returns-in-Ok-End : goal.returns-in-Ok-End
returns-in-Ok-End c =
    let e : c.property_command_at.result ≡ Ok properties.End = cc in
    let it = properties_skipped _ (properties_left_end c.loop-i.invariant.1 (told c.property_command_at.ensures e)) in
    record { within = it.0; read = it.1.0; passed = it.1.1 }

pub returns-in-Err : goal.returns-in-Err
returns-in-Err c =
    let it = properties_skipped _ (properties_left_none c.loop-i.invariant.1 (told c.property_command_at.ensures c.in-Err.is)) in
    record { within = it.0; read = it.1.0; passed = it.1.1 }
